use Rattle.std.proofs.Common.{◌∙◌, ◌++◌, ap₂, List, ℕ, option_to_list}
use Rattle.cx_table.specs.NameTable.{Entries, names_of}
use Rattle.cx_directive.proofs.DistinctLaws.{after_none, distinct_after}
use Rattle.cx_directive.proofs.parameters.are_distinct.Goals as goal

pub loop-name-init : goal.loop-name-init
loop-name-init c =
    ap₂ (λ (es : Entries (Unit {0})) (names : List (List ℕ)). distinct_after (names_of es) (names ++ option_to_list c.args.parameters.now.variable)) c.new-set.ensures c.as_slice-names.ensures
    ∙ after_none (c.args.parameters.now.names ++ option_to_list c.args.parameters.now.variable)
