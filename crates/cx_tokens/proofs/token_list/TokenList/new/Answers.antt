use Rattle.std.proofs.Common.{None, ap, arith, length, refl, subst, sym}
use Rattle.cx_tokens.specs.Shapes.Links.{IsLinks, walk}
use Rattle.cx_tokens.proofs.LinkSteps.{no_links}
use Rattle.cx_tokens.proofs.token_list.TokenList.new.Goals as goal

pub invariant_of-result : goal.invariant_of-result
invariant_of-result c = record {
  links = subst (λ s. IsLinks s None 0 None 0) (sym c.new.ensures.items) no_links;
  enough = (let a = ap length c.new.ensures.items in omega (arith, a));
  none_open = c.new-2.ensures.items;
}

pub returns : goal.returns
unfolding walk
returns c = refl
