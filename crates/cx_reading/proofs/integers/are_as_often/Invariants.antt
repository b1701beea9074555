use Rattle.std.proofs.Common.{◌≡◌, ◌==◌, drop}
use Rattle.std.specs.List.{list_all}
use Rattle.cx_reading.specs.Types.{occurrences}
use Rattle.cx_reading.proofs.integers.are_as_often.Given as goal

abbrev pub invariant-loop-keyword : goal.invariant-loop-keyword
invariant-loop-keyword l =
    list_all (λ k. occurrences k l.row == occurrences k l.keywords) (drop l.keyword-index l.keywords)
    ≡ list_all (λ k. occurrences k l.row == occurrences k l.keywords) l.keywords
