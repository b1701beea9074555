-- Where the items of a unit end (C11 6.9, annex A.2.4), by brackets alone.
use Rattle.std.specs.Prelude.{◌≡◌, ℕ, ◌+◌, Bool, true, false, List, [], ◌∷◌, ◌++◌, length, All}
use Rattle.cx_syntax_tree.specs.declared.terminals.Punctuator.{Punctuator}
use Rattle.cx_syntax_tree.specs.declared.terminals.Punctuator.TheVariants as mark
use Rattle.cx_syntax_tree.specs.declared.terminals.Terminal.{Terminal}
use Rattle.cx_syntax_tree.specs.declared.terminals.Terminal.TheVariants as terminal_is
use Rattle.cx_terminals.specs.Terminals.{Is}
use Rattle.cx_items.specs.Brackets.{Part, alone, group, tokens_of}

-- the part is this punctuator
abbrev pub IsMark : Punctuator → Part → Type 0
IsMark m (alone p) = Is m p
IsMark m (group p inner q) = ⊥

-- the part is a pair of brackets of this kind
abbrev pub IsGroup : Punctuator → Part → Type 0
IsGroup m (alone p) = ⊥
IsGroup m (group p inner q) = Is m p

-- braces directly behind round brackets
abbrev pub IsBody : Part → List Part → Type 0
IsBody x [] = ⊥
IsBody x (y ∷ rest) = IsGroup mark.OpenRound x × IsGroup mark.OpenCurly y

-- Ends parts front rest: the front goes up to the first ";", or up to the first braces directly
-- behind round brackets
pub data Ends : List Part → List Part → List Part → Type 0 where
  at_semicolon : {x : Part} {rest : List Part} → IsMark mark.Semicolon x
      → Ends (x ∷ rest) (x ∷ []) rest
  at_body : {x y : Part} {rest : List Part} → IsBody x (y ∷ rest)
      → Ends (x ∷ y ∷ rest) (x ∷ y ∷ []) rest
  later : {x : Part} {ts front rest : List Part} → (IsMark mark.Semicolon x → ⊥)
      → (IsBody x ts → ⊥) → Ends ts front rest → Ends (x ∷ ts) (x ∷ front) rest

abbrev pub is_word : Terminal → Bool
is_word (terminal_is.Name n) = true
is_word (terminal_is.TypeName n) = true
is_word (terminal_is.Keyword k) = true
is_word _ = false

-- a name or a keyword
abbrev pub IsWordPart : Part → Type 0
IsWordPart (alone p) = is_word p.terminal ≡ true
IsWordPart (group p inner q) = ⊥

-- a word directly behind round brackets
pub data HasWordBehind : List Part → Type 0 where
  here : {x y : Part} {rest : List Part} → IsGroup mark.OpenRound x → IsWordPart y
      → HasWordBehind (x ∷ y ∷ rest)
  further : {x : Part} {rest : List Part} → HasWordBehind rest → HasWordBehind (x ∷ rest)

-- neither braces nor "="
abbrev pub IsOfRun : Part → Type 0
IsOfRun x = (IsGroup mark.OpenCurly x → ⊥) × (IsMark mark.Equal x → ⊥)

-- the last part is ";"
pub data EndsInSemicolon : List Part → Type 0 where
  last : {x : Part} → IsMark mark.Semicolon x → EndsInSemicolon (x ∷ [])
  before : {x : Part} {rest : List Part} → EndsInSemicolon rest → EndsInSemicolon (x ∷ rest)

-- an old-style definition (C11 6.9.1p6): behind the ";" of its first declaration stand declarations
-- and then the body, directly behind a ";"
pub record IsOldStyle (parts front rest : List Part) : Type 0 where
  pub head : List Part
  pub runs : List Part
  pub body : Part
  pub ends : Ends parts head (runs ++ body ∷ rest)
  pub first : EndsInSemicolon head
  pub word : HasWordBehind head
  pub of_runs : All IsOfRun runs
  pub closed : EndsInSemicolon (head ++ runs)
  pub braces : IsGroup mark.OpenCurly body
  pub whole : front ≡ head ++ runs ++ body ∷ []

-- IsItem parts front rest: the first item of the parts, and what stands behind it
pub data IsItem (parts front rest : List Part) : Type 0 where
  old_style : IsOldStyle parts front rest → IsItem parts front rest
  plain : Ends parts front rest → ((fs rs : List Part) → IsOldStyle parts fs rs → ⊥)
      → IsItem parts front rest

-- AreStarts n parts starts finished: the tokens of the parts, the first of which has the number n,
-- are cut into items that begin at these numbers; the last one has an end, or not.
pub data AreStarts : ℕ → List Part → List ℕ → Bool → Type 0 where
  no_items : {n : ℕ} → AreStarts n [] [] true
  an_item : {n : ℕ} {parts front rest : List Part} {starts : List ℕ} {finished : Bool}
      → IsItem parts front rest
      → AreStarts (n + length (tokens_of front)) rest starts finished
      → AreStarts n parts (n ∷ starts) finished
  no_end : {n : ℕ} {x : Part} {parts : List Part}
      → ((front rest : List Part) → IsItem (x ∷ parts) front rest → ⊥)
      → AreStarts n (x ∷ parts) (n ∷ []) false
