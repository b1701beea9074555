-- The round brackets and commas ahead in a list, token by token from the last one: what `Frames` of
-- the code keeps of the tokens ahead. Joined to `bracketed` and `cut_at_comma` (law `frame_is`).
use Rattle.std.specs.Prelude.{◌≡◌, ℕ, zero, suc, List, [], ◌∷◌, ◌++◌, if◌then◌else◌, Option, Some, None, IfSome, length, ◌+◌, reverse}
use Rattle.cx_tokens.specs.declared.token.Token.{Token}
use Rattle.cx_macro.specs.declared.frames.Frame.{Frame}
use Rattle.cx_macro.specs.declared.frames.Frames.{Frames}
use Rattle.cx_macro.specs.declared.arguments.Inner.{Inner}
use Rattle.cx_macro.specs.Arguments.{Bracketed, is_close, is_comma, is_open}
use Rattle.cx_macro.specs.Shapes.Counting.{cut_at_comma}

-- a comma in the innermost brackets, with so many tokens behind it
abbrev pub with_comma : ℕ → List Frame → List Frame
with_comma n [] = []
with_comma n (f ∷ fs) =
    (record { hide = f.hide; behind = f.behind; commas = n ∷ f.commas }) ∷ fs

abbrev pub outside : List Frame → List Frame
outside [] = []
outside (f ∷ fs) = fs

abbrev pub frame_at : ℕ → List Frame → Option Frame
frame_at n [] = None
frame_at zero (f ∷ fs) = Some f
frame_at (suc n) (f ∷ fs) = frame_at n fs

-- the closing brackets whose opening ones are passed, with the commas before each
unfoldable pub frames_of : List Token → List Frame
frames_of [] = []
frames_of (t ∷ ts) =
    if is_close t
    then (record { hide = t.hide; behind = length ts; commas = [] }) ∷ frames_of ts
    else if is_open t then outside (frames_of ts)
    else if is_comma t then with_comma (length ts) (frames_of ts) else frames_of ts

-- the closing bracket of each opening one, where it is there
unfoldable pub openings_of : List Token → List (Option Frame)
openings_of [] = []
openings_of (t ∷ ts) =
    if is_open t then frame_at 0 (frames_of ts) ∷ openings_of ts else openings_of ts

-- These are the frames of the tokens ahead.
pub record AreFrames (f : Frames) (ts : List Token) : Type 0 where
  pub len : f.len ≡ length ts
  pub frames : f.frames ≡ frames_of ts
  pub openings : f.openings ≡ openings_of ts

-- The commas cut these tokens, of which the first comma has the second ones behind it, with an end
-- behind them.
abbrev pub CommasCut : List ℕ → Option (List Token) → List Token → Type 0
CommasCut [] after end = after ≡ None
CommasCut (p ∷ ps) after end =
    (rest : List Token) × (after ≡ Some rest) × (p ≡ length (rest ++ end))
    × CommasCut ps (cut_at_comma 0 rest).after end

-- The frame is that of what stands between brackets.
pub record IsFrame (depth : ℕ) (b : Bracketed) (f : Frame) : Type 0 where
  pub behind : f.behind ≡ length b.after
  pub hide : f.hide ≡ b.closing.hide
  pub commas : CommasCut f.commas (cut_at_comma depth b.inner).after (b.closing ∷ b.after)

-- the frames of the tokens ahead, where they are there
abbrev pub HaveFrames : Option Frames → List Token → Type 0
HaveFrames frames ts = IfSome frames (λ f. AreFrames f ts)

-- This is left of what stands between brackets, with the closing bracket and all that stands behind
-- it as its end.
pub record IsInner (x : Inner) (ts end : List Token) : Type 0 where
  pub left : x.left ≡ length (ts ++ end)
  pub behind : length end ≡ x.behind + 1
  pub commas : CommasCut (reverse x.commas.now) (cut_at_comma 0 ts).after end

abbrev pub IsAfter : Option Inner → Option (List Token) → List Token → Type 0
IsAfter None after end = after ≡ None
IsAfter (Some x) after end = (ts : List Token) × (after ≡ Some ts) × IsInner x ts end
