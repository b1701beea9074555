use Rattle.std.proofs.Common.{ap, subst, ◌∙◌}
use Rattle.cx_pre.specs.Starts.{AreDefined, with_names}
use Rattle.cx_pre.proofs.StartLaws.{starts}
use Rattle.cx_pre.proofs.starts.start.Goals as goal

pub returns : goal.returns
returns c =
    starts c.args.config.now c.in_ok-macros.macros c.define_all.new.macros c.define_names.new.macros c.in_ok-macros.ensures
    (subst (λ ds. AreDefined c.in_ok-macros.macros ds c.define_all.new.macros) c.as_slice.ensures c.in_ok-define_all.ensures)
    (c.in_ok-define_names.ensures ∙ ap (λ ns. with_names ns c.define_all.new.macros) c.as_slice-2.ensures)
