-- What the rules of the grammar are made of. A relation says of a list of tokens, a tree and a list
-- that a front of the first list is the tree, and the second list stands behind it.
use Rattle.std.specs.Prelude.{◌≡◌, ℕ, List, [], ◌∷◌, Option, Some, None}
use Rattle.cx_syntax_tree.specs.declared.terminals.Punctuator.{Punctuator}
use Rattle.cx_syntax_tree.specs.declared.terminals.Punctuator.TheVariants.{Comma}
use Rattle.cx_syntax_tree.specs.declared.terminals.Lexeme.{Lexeme}
use Rattle.cx_terminals.specs.Terminals.{Is}

abbrev pub Relation : Type 0 → Type 1
Relation A = List Lexeme → A → List Lexeme → Type 0

-- nothing reads
abbrev pub Never : {A : Type 0} → Relation A
Never ts x rest = ⊥

-- {Item}
pub data Many {A : Type 0} (Item : Relation A) : List Lexeme → List A → List Lexeme → Type 0 where
  no_more : {ts : List Lexeme} → Many Item ts [] ts
  one_more : {ts mid rest : List Lexeme} {x : A} {xs : List A} → Item ts x mid
      → Many Item mid xs rest → Many Item ts (x ∷ xs) rest

-- [Item]
pub data Maybe {A : Type 0} (Item : Relation A) : List Lexeme → Option A → List Lexeme
    → Type 0 where
  without : {ts : List Lexeme} → Maybe Item ts None ts
  with_one : {ts rest : List Lexeme} {x : A} → Item ts x rest → Maybe Item ts (Some x) rest

-- one punctuator, with its place
pub data Mark (m : Punctuator) : List Lexeme → ℕ → List Lexeme → Type 0 where
  mark : {p : Lexeme} {at : ℕ} {ts : List Lexeme} → Is m p → at ≡ p.at → Mark m (p ∷ ts) at ts

-- "," Item, where `made` puts the place of the comma and the item together
pub data AfterComma {A B : Type 0} (made : ℕ → A → B) (Item : Relation A)
    : List Lexeme → B → List Lexeme → Type 0 where
  comma : {ts mid rest : List Lexeme} {at : ℕ} {x : A} {t : B} → Mark Comma ts at mid
      → Item mid x rest → t ≡ made at x → AfterComma made Item ts t rest
