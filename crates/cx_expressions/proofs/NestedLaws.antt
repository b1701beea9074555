-- Expressions however deep they nest.
use Rattle.std.proofs.Common.{ℕ, zero, suc}
use Rattle.cx_expressions.specs.Expressions.{nested}
use Rattle.cx_expressions.specs.Shapes.Roles.{Stops, Operand}
use Rattle.cx_expressions.specs.Shapes.Parsers.{readers}
use Rattle.cx_expressions.proofs.InnerLaws.{InnerLaws, never_law}
use Rattle.cx_expressions.proofs.OperandLaws.{unary_law, unary_plain, cast_law}
use Rattle.cx_expressions.proofs.AssignLaws.{cond_law, assign_law}

pub nested_laws : (n : ℕ) → InnerLaws (readers n) (nested n)
unfolding readers nested
nested_laws zero = record {
  cast = never_law Operand (Stops 0);
  unary = never_law Operand (Stops 0);
  plain = λ ts x rest n. absurd n;
  cond = never_law Operand (Stops 11);
  assign = never_law Operand (Stops 12);
}
nested_laws (suc n) = record {
  cast = cast_law (nested_laws n);
  unary = unary_law (nested_laws n);
  plain = unary_plain (nested_laws n);
  cond = cond_law (nested_laws n);
  assign = assign_law (nested_laws n);
}
