-- A list of tokens of which a front is done, and what is ahead cut into segments.
use Rattle.std.specs.Prelude.{◌≡◌, ℕ, ◌+◌, List, [], ◌∷◌, ◌++◌, Bool, if◌then◌else◌, Option, Some, None, length, take, drop}
use Rattle.cx_tokens.specs.declared.token.Token.{Token}
use Rattle.cx_macro.specs.declared.segment.Segment.{Segment}
use Rattle.cx_macro.specs.declared.segment.Cut.{Cut}
use Rattle.cx_macro.specs.declared.segment.Cut.TheVariants as cut
use Rattle.cx_macro.specs.Arguments.{Bracketed}
use Rattle.cx_macro.specs.Shapes.Counting.{arguments_of, bracketed}
use Rattle.cx_macro.specs.Shapes.Levels.{Standing}

-- The tokens done, those ahead in the first segment, and those of each segment behind it.
pub record Spread : Type 0 where
  pub done : List Token
  pub ahead : List Token
  pub more : List (List Token)

-- how many tokens a segment takes, with the one that ends it
abbrev pub extent : Segment → ℕ
extent s = s.tokens + (if s.is_ended then 1 else 0)

-- the tokens of the first segment; all, where none is cut off
abbrev pub ahead_of : List Segment → List Token → List Token
ahead_of [] ts = ts
ahead_of (s ∷ ss) ts = take s.tokens ts

-- those of each segment behind it, the last of which is what stands behind all that are cut off
abbrev pub more_of : List Segment → List Token → List (List Token)
more_of [] ts = []
more_of (s ∷ ss) ts = ahead_of ss (drop (extent s) ts) ∷ more_of ss (drop (extent s) ts)

abbrev pub spread_of : List Segment → Standing → Spread
spread_of ss s = record { done = s.done; ahead = ahead_of ss s.ahead; more = more_of ss s.ahead }

-- Cuts segments tokens pieces behind: the segments cut the pieces off the tokens, and leave those
-- behind.
pub data Cuts : List Segment → List Token → List (List Token) → List Token → Type 0 where
  cuts_none : {ts : List Token} → Cuts [] ts [] ts
  cuts_one : {ss : List Segment} {rest behind : List Token} {pieces : List (List Token)}
      (s : Segment) (piece ending : List Token)
      → s.tokens ≡ length piece → (if s.is_ended then 1 else 0) ≡ length ending
      → Cuts ss rest pieces behind
      → Cuts (s ∷ ss) (piece ++ (ending ++ rest)) (piece ∷ pieces) behind

-- what stands behind the arguments so far, with the closing bracket behind them all
abbrev pub left_behind : Option (List Token) → Token → List Token → List Token
left_behind None closing behind = behind
left_behind (Some ts) closing behind = ts ++ closing ∷ behind

-- The segments cut these arguments off a text with a closing bracket behind it, whatever that is
-- and stands behind it.
abbrev pub CutsText : List Segment → List Token → List (List Token) → Option (List Token) → Type 0
CutsText segments text raw left =
    (closing : Token) (behind : List Token)
    → Cuts segments (text ++ closing ∷ behind) raw (left_behind left closing behind)

-- A call whose opening bracket was passed: its brackets, and its arguments, which are the segments
-- ahead then.
pub record IsCut (n : ℕ) (variadic : Bool) (old new : Spread) (hide : List (List ℕ)) (arguments : ℕ)
    (left_out : Bool) : Type 0 where
  pub brackets : Bracketed
  pub raw : List (List Token)
  pub found : bracketed 0 old.ahead ≡ Some brackets
  pub split : arguments_of n variadic brackets.inner
      ≡ Some (record { given = raw; left_out = left_out })
  pub counted : length raw ≡ arguments
  pub hides : hide ≡ brackets.closing.hide
  pub done : new.done ≡ old.done
  pub cut : new.ahead ∷ new.more ≡ raw ++ brackets.after ∷ old.more

abbrev pub CutIs : ℕ → Bool → Spread → Spread → Cut → Type 0
CutIs n variadic old new cut.Unclosed = bracketed 0 old.ahead ≡ None
CutIs n variadic old new cut.Miscounted =
    (b : Bracketed) × (bracketed 0 old.ahead ≡ Some b) × (arguments_of n variadic b.inner ≡ None)
CutIs n variadic old new (cut.Called hide arguments left_out) =
    IsCut n variadic old new hide arguments left_out
