-- Each list of tokens has a value or none.
use Rattle.std.proofs.Common.{◌≡◌, Option, Some, None, refl, ◌∙◌, ap, []}
use Rattle.cx_condition.specs.Conditions.{Reads, Tree, value}
use Rattle.cx_condition.specs.Parts.{parts_of}
use Rattle.cx_condition.specs.Shapes.Machine.{ran}
use Rattle.cx_condition.specs.declared.value.Operand.{Operand}
use Rattle.cx_condition.specs.declared.value.Value.{Value}
use Rattle.cx_condition.specs.declared.condition.State.TheVariants.{Wait}
use Rattle.cx_condition.proofs.CompleteLaws.{complete}
use Rattle.cx_condition.proofs.SameLaws as reading
use Rattle.cx_condition.proofs.SoundLaws.{sound}
use Rattle.cx_pre.specs.Conditions.{HasValue, has, has_none}
use Rattle.cx_pre.proofs.OneLaws.{OneReading}
use Rattle.cx_pre.proofs.SomeLaws.{SomeValue}

pub one_reading : OneReading
one_reading tokens t u r q = reading.one_reading (parts_of tokens) t u r q

pub some_value : SomeValue
some_value tokens = at (ran [] Wait (parts_of tokens)) refl
  where
    by : (t : Tree) → Reads tokens t → (v : Option Value) → value t ≡ v → (v : Option Value) × HasValue tokens v
    by t r None e = (None, has_none (λ u q. ap value (one_reading tokens u t q r) ∙ e))
    by t r (Some v) e = (Some v, has t r e)

    at : (x : Option Operand) → ran [] Wait (parts_of tokens) ≡ x → (v : Option Value) × HasValue tokens v
    at None e = (None, has_none (λ t r. absurd (let f = complete (parts_of tokens) t r in cc)))
    at (Some x) e = let h = sound (parts_of tokens) x e in by h.0 h.1 (value h.0) refl
