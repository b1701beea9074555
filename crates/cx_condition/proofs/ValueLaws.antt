-- The value that the machine computes is that of the tree.
use Rattle.std.proofs.Common.{◌≡◌, List, [], ◌∷◌, Option, Some, None, refl, sym, ap, ◌∙◌, IfSome}
use Rattle.std.specs.Prelude.{option_and_then}
use Rattle.cx_tokens.specs.declared.token.Token.{Token}
use Rattle.cx_condition.specs.declared.value.Operand.{Operand}
use Rattle.cx_condition.specs.declared.value.Value.{Value}
use Rattle.cx_condition.specs.declared.part.Part.{Part}
use Rattle.cx_condition.specs.declared.condition.State.TheVariants.{Wait}
use Rattle.cx_condition.specs.Conditions.{Tree, IsCondition, Reads, evaluated, value}
use Rattle.cx_condition.specs.Parts.{parts_of}
use Rattle.cx_condition.specs.Values.{value_of}
use Rattle.cx_condition.specs.Shapes.Machine.{ran}
use Rattle.cx_condition.proofs.SoundLaws.{sound}
use Rattle.cx_condition.proofs.CompleteLaws.{complete}

pub only_value : (tokens : List Token) (t : Tree) (r : Option Value) → Reads tokens t → r ≡ option_and_then value_of (ran [] Wait (parts_of tokens)) → r ≡ value t
only_value tokens t r h e = e ∙ ap (option_and_then value_of) (complete (parts_of tokens) t h)

of_operand : (tokens : List Token) (o : Option Operand) (v : Value) → ran [] Wait (parts_of tokens) ≡ o → Some v ≡ option_and_then value_of o → (t : Tree) × Reads tokens t × (value t ≡ Some v)
of_operand tokens None v h e = absurd cc
of_operand tokens (Some x) v h e = let s = sound (parts_of tokens) x h in (s.0, s.1, ap value_of s.2 ∙ sym e)

pub found_value : (tokens : List Token) (r : Option Value) → r ≡ option_and_then value_of (ran [] Wait (parts_of tokens)) → IfSome r (λ v. (t : Tree) × Reads tokens t × (value t ≡ Some v))
found_value tokens None e = tt
found_value tokens (Some v) e = of_operand tokens (ran [] Wait (parts_of tokens)) v refl e
