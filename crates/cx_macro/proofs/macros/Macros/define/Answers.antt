use Rattle.std.proofs.Common.{◌∙◌, ℕ, Bool, List, Option, ap}
use Rattle.cx_tokens.specs.declared.token.Token.{Token}
use Rattle.cx_macro.specs.Macros.{Definition}
use Rattle.cx_macro.proofs.TableLaws.{defines}
use Rattle.cx_macro.proofs.macros.Macros.define.Goals as goal

with_body : Option (List (List ℕ)) → Bool → List Token → Definition
with_body parameters variadic body = record { parameters = parameters; variadic = variadic; body = body }

pub returns : goal.returns
unfolding with_body
returns c = record {
  ok = defines _ _ _ _ _ _ c.in_ok-insert.ensures.ok
      (c.in_ok-stored.ensures ∙ ap (with_body c.args.made.parameters c.args.made.variadic) (c.in_ok-body.ensures ∙ c.over.ensures)) c.self.view_is;
  err = tt;
}
