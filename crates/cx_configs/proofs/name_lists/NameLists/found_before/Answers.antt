use Rattle.std.proofs.Common.{map, sym, ◌∙◌, subst}
use Rattle.std.specs.Prelude.{IfSome}
use Rattle.cx_configs.specs.Shapes.Found.{IsFound}
use Rattle.cx_configs.proofs.StepLaws.{found_is}
use Rattle.cx_configs.proofs.name_lists.NameLists.found_before.Goals as goal

pub returns : goal.returns
returns c =
    subst (λ lists. IfSome c.copied.result (λ number. IsFound lists (record {
      around = c.args.step.now.0;
      added = map (λ n. n.now) c.args.step.now.1.items;
      number = number;
    }))) c.self.view_is
    (subst (λ found. IfSome found (λ number. IsFound (map (λ k. map (λ n. n.now) k.keys) c.self.inside.lists.keys) (record {
      around = c.args.step.now.0;
      added = map (λ n. n.now) c.args.step.now.1.items;
      number = number;
    }))) (sym (c.copied.ensures ∙ c.get.ensures.value))
    (found_is (map (λ k. map (λ n. n.now) k.keys) c.self.inside.lists.keys) c.args.step.now c.self.inside.found.entries c.self.invariant))
