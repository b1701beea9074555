-- A condition is evaluated while it is read: what waits for an operand is kept as frames, the
-- newest first.
use Rattle.std.specs.Prelude.{ℕ, List, [], ◌∷◌, Bool, if◌then◌else◌, nat_le, Option, Some, None, option_map, option_and_then}
use Rattle.cx_condition.specs.declared.value.Operand.{Operand}
use Rattle.cx_condition.specs.declared.value.Value.{Value}
use Rattle.cx_condition.specs.declared.part.Part.{Part}
use Rattle.cx_condition.specs.declared.part.Part.TheVariants as part_is
use Rattle.cx_condition.specs.declared.frame.Frame.{Frame}
use Rattle.cx_condition.specs.declared.frame.Frame.TheVariants as frame_is
use Rattle.cx_condition.specs.declared.condition.State.{State}
use Rattle.cx_condition.specs.declared.condition.State.TheVariants.{Wait, Have}
use Rattle.cx_condition.specs.Levels.{level_of}
use Rattle.cx_condition.specs.Conditions.{unary_of}
use Rattle.cx_condition.specs.Values.{binary, choice, unary}

abbrev pub newest : List Frame → Option Frame
newest [] = None
newest (f ∷ fs) = Some f

-- how loosely a frame binds: an operand of a lower level belongs to it
unfoldable pub binds : Frame → ℕ
binds (frame_is.Unary op) = 1
binds (frame_is.Binary op a) = level_of op
binds frame_is.Open = 13
binds (frame_is.Question c) = 13
binds (frame_is.Colon c a) = 12

-- frames that bind no more loosely than this have their operand when a part follows
unfoldable pub reach : Part → ℕ
reach (part_is.Operator op) = level_of op
reach part_is.Question = 11
reach _ = 12

unfoldable pub applied : Frame → Operand → Operand
applied (frame_is.Unary op) v = unary op v
applied (frame_is.Binary op a) v = binary op a v
applied frame_is.Open v = v
applied (frame_is.Question c) v = v
applied (frame_is.Colon c a) v = choice c a v

pub record Settled : Type 0 where
  pub frames : List Frame
  pub operand : Operand

-- an operand is given to the frames that bind no more loosely than k
unfoldable pub settled : ℕ → List Frame → Operand → Settled
settled k [] v = record { frames = []; operand = v }
settled k (f ∷ fs) v =
    if nat_le (binds f) k then settled k fs (applied f v)
    else record { frames = f ∷ fs; operand = v }

abbrev pub made : List Frame → Operand → Settled
made fs v = record { frames = fs; operand = v }

-- the same, after the newest frame was taken away, or stays
abbrev pub released : Option Frame → ℕ → List Frame → Operand → Settled
released None k fs v = made fs v
released (Some f) k fs v = settled k fs (applied f v)

pub record Going : Type 0 where
  pub frames : List Frame
  pub state : State

abbrev pub going : List Frame → State → Option Going
going fs s = Some (record { frames = fs; state = s })

abbrev pub went_on : Option State → List Frame → Option Going
went_on None fs = None
went_on (Some s) fs = going fs s

-- a part where an operand is to begin
unfoldable pub begun : List Frame → Part → Option Going
begun fs (part_is.Constant v) =
    going fs (Have (record { is_unsigned = v.is_unsigned; bits = Some v.bits }))
begun fs part_is.Open = going (frame_is.Open ∷ fs) Wait
begun fs p =
    option_and_then (λ op. going (frame_is.Unary op ∷ fs) Wait) (unary_of p)

-- `:` behind an operand
unfoldable pub divided : List Frame → Operand → Option Going
divided (frame_is.Question c ∷ fs) v = going (frame_is.Colon c v ∷ fs) Wait
divided _ v = None

-- `)` behind an operand
unfoldable pub closed : List Frame → Operand → Option Going
closed (frame_is.Open ∷ fs) v = going fs (Have v)
closed _ v = None

-- a part behind an operand
unfoldable pub followed : List Frame → Operand → Part → Option Going
followed fs v (part_is.Operator op) = going (frame_is.Binary op v ∷ fs) Wait
followed fs v part_is.Question = going (frame_is.Question v ∷ fs) Wait
followed fs v part_is.Colon = divided fs v
followed fs v part_is.Close = closed fs v
followed fs v _ = None

abbrev pub followed_by : Part → Settled → Option Going
followed_by p s = followed s.frames s.operand p

unfoldable pub step : List Frame → State → Part → Option Going
step fs Wait p = begun fs p
step fs (Have v) p = followed_by p (settled (reach p) fs v)

abbrev pub lone_of : List Frame → Operand → Option Operand
lone_of [] v = Some v
lone_of (f ∷ fs) v = None

abbrev pub lone : Settled → Option Operand
lone s = lone_of s.frames s.operand

-- the end of the condition
unfoldable pub finished : List Frame → State → Option Operand
finished fs Wait = None
finished fs (Have v) = lone (settled 12 fs v)

unfoldable pub ran : List Frame → State → List Part → Option Operand
ran fs s [] = finished fs s
ran fs s (p ∷ ps) = option_and_then (λ g. ran g.frames g.state ps) (step fs s p)
