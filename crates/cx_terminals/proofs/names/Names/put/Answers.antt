use Rattle.std.proofs.Common.{◌∙◌, ap, map, bytes_eq}
use Rattle.std.specs.List.{position_or_len}
use Rattle.indexmap.specs.IndexSet.{insert_key}
use Rattle.cx_terminals.proofs.ShownLaws.{shown_keys, shown_place}
use Rattle.cx_terminals.proofs.names.Names.put.Goals as goal

pub returns-clause-names : goal.returns-clause-names
returns-clause-names c =
    ap (map (λ k. k.now)) c.in_ok-number.ensures.keys ∙ shown_keys _ c.args.name
    ∙ ap (λ names. insert_key bytes_eq names c.args.name.now) c.self.view_is

pub returns-clause-number : goal.returns-clause-number
returns-clause-number c =
    c.in_ok-number.number-is ∙ c.in_ok-number.ensures.index ∙ shown_place _ c.args.name
    ∙ ap (position_or_len (bytes_eq c.args.name.now)) c.self.view_is
