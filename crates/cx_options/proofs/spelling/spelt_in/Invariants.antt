use Rattle.std.proofs.Common.{◌≡◌, drop}
use Rattle.std.specs.List.{find}
use Rattle.cx_options.specs.Spellings.{is_spelt}
use Rattle.cx_options.proofs.spelling.spelt_in.Given as goal

abbrev pub invariant-loop-spelling : goal.invariant-loop-spelling
invariant-loop-spelling l =
    find (λ o. is_spelt l.word (o.0.now, o.1, o.2)) (drop l.spelling-index l.options)
    ≡ find (λ o. is_spelt l.word (o.0.now, o.1, o.2)) l.options
