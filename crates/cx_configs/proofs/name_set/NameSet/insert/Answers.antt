use Rattle.std.proofs.Common.{ap, ◌∙◌, map}
use Rattle.std.specs.Ordering.{nat_cmp}
use Rattle.std.specs.Cmp.Lexicographic.{slice_cmp}
use Rattle.cx_configs.specs.Shapes.Sets.{with_name}
use Rattle.cx_configs.proofs.SetLaws.{inserted_in_order}
use Rattle.cx_configs.proofs.name_set.NameSet.insert.Goals as goal

pub returns : goal.returns
returns c =
    ap (λ ks. map (λ k. k.now) ks) c.in_ok-insert.ensures.keys
    ∙ inserted_in_order (λ k. k.now) (slice_cmp nat_cmp) c.args.name c.self.inside.names.keys
    ∙ ap (λ s. with_name s c.args.name.now) c.self.view_is
