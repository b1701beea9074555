-- What a part is to the end of an item.
use Rattle.std.proofs.Common.{◌≡◌, List, true, refl, ap}
use Rattle.cx_syntax_tree.specs.declared.terminals.Punctuator.{Punctuator}
use Rattle.cx_syntax_tree.specs.declared.terminals.Punctuator.TheVariants as mark
use Rattle.cx_syntax_tree.specs.declared.terminals.Terminal.{Terminal}
use Rattle.cx_syntax_tree.specs.declared.terminals.Terminal.TheVariants as terminal_is
use Rattle.cx_syntax_tree.specs.declared.terminals.Lexeme.{Lexeme}
use Rattle.cx_items.specs.declared.outline.PartKind.{PartKind}
use Rattle.cx_items.specs.declared.outline.PartKind.TheVariants as part
use Rattle.cx_items.specs.Brackets.{Part, alone, group}
use Rattle.cx_items.specs.Cutting.{IsGroup, IsMark, IsWordPart, is_word}
use Rattle.cx_items.specs.Shapes.Outlines.{bracket_of, bracket_of_mark}
use Rattle.cx_items.proofs.OutlineLaws.{group_kind, kind_of, plain_kind}

-- a part of a kind
pub data Seen (x : Part) : PartKind → Type 0 where
  semicolon : IsMark mark.Semicolon x → Seen x part.Semicolon
  equal : IsMark mark.Equal x → Seen x part.Equal
  word : IsWordPart x → Seen x part.Word
  round : IsGroup mark.OpenRound x → Seen x part.Round
  braces : IsGroup mark.OpenCurly x → Seen x part.Braces
  other : Seen x part.Other

seen_mark : (p : Lexeme) (m : Punctuator) → p.terminal ≡ terminal_is.Punctuator m
    → Seen (alone p) (plain_kind (bracket_of_mark m))
seen_mark p mark.Semicolon e = semicolon e
seen_mark p mark.Equal e = equal e
seen_mark p _ e = other

seen_alone : (p : Lexeme) (t : Terminal) → p.terminal ≡ t → Seen (alone p) (plain_kind (bracket_of t))
unfolding bracket_of
seen_alone p (terminal_is.Punctuator m) e = seen_mark p m e
seen_alone p (terminal_is.Name n) e = word (ap is_word e)
seen_alone p (terminal_is.TypeName n) e = word (ap is_word e)
seen_alone p (terminal_is.Keyword k) e = word (ap is_word e)
seen_alone p terminal_is.Number e = other
seen_alone p terminal_is.Char e = other
seen_alone p terminal_is.String e = other
seen_alone p terminal_is.Foreign e = other

seen_marks : (p q : Lexeme) (inner : List Lexeme) (m : Punctuator) → p.terminal ≡ terminal_is.Punctuator m
    → Seen (group p inner q) (group_kind (bracket_of_mark m))
seen_marks p q inner mark.OpenRound e = round e
seen_marks p q inner mark.OpenCurly e = braces e
seen_marks p q inner _ e = other

seen_group : (p q : Lexeme) (inner : List Lexeme) (t : Terminal) → p.terminal ≡ t
    → Seen (group p inner q) (group_kind (bracket_of t))
unfolding bracket_of
seen_group p q inner (terminal_is.Punctuator m) e = seen_marks p q inner m e
seen_group p q inner _ e = other

pub seen : (x : Part) → Seen x (kind_of x)
unfolding kind_of
seen (alone p) = seen_alone p p.terminal refl
seen (group p inner q) = seen_group p q inner p.terminal refl

-- and the other way round
pub is_semicolon : (x : Part) → IsMark mark.Semicolon x → kind_of x ≡ part.Semicolon
unfolding kind_of bracket_of
is_semicolon (alone p) h = ap (λ t. plain_kind (bracket_of t)) h
is_semicolon (group p inner q) h = absurd h

pub is_equal : (x : Part) → IsMark mark.Equal x → kind_of x ≡ part.Equal
unfolding kind_of bracket_of
is_equal (alone p) h = ap (λ t. plain_kind (bracket_of t)) h
is_equal (group p inner q) h = absurd h

word_terminals : (t : Terminal) → is_word t ≡ true → plain_kind (bracket_of t) ≡ part.Word
unfolding bracket_of
word_terminals (terminal_is.Name n) h = refl
word_terminals (terminal_is.TypeName n) h = refl
word_terminals (terminal_is.Keyword k) h = refl
word_terminals _ h = absurd cc

pub is_word_part : (x : Part) → IsWordPart x → kind_of x ≡ part.Word
unfolding kind_of
is_word_part (alone p) h = word_terminals p.terminal h
is_word_part (group p inner q) h = absurd h

pub is_round : (x : Part) → IsGroup mark.OpenRound x → kind_of x ≡ part.Round
unfolding kind_of bracket_of
is_round (alone p) h = absurd h
is_round (group p inner q) h = ap (λ t. group_kind (bracket_of t)) h

pub is_braces : (x : Part) → IsGroup mark.OpenCurly x → kind_of x ≡ part.Braces
unfolding kind_of bracket_of
is_braces (alone p) h = absurd h
is_braces (group p inner q) h = ap (λ t. group_kind (bracket_of t)) h
