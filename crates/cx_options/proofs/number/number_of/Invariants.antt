use Rattle.std.proofs.Common.{◌≡◌, ◌+◌, ◌*◌, ◌-◌, ◌<◌, drop, true}
use Rattle.std.specs.Prelude.{fold}
use Rattle.std.specs.List.{list_all}
use Rattle.cx_options.specs.Arguments.{is_digit, number_of}
use Rattle.cx_options.proofs.NumberLaws.{limit}
use Rattle.cx_options.proofs.number.number_of.Given as goal

abbrev pub invariant-loop-byte : goal.invariant-loop-byte
invariant-loop-byte l =
    record {
      below : l.number < limit l.byte-index;
      digits : list_all is_digit (drop l.byte-index l.text) ≡ true;
      value : fold (λ n b. 10 * n + (b - 48)) l.number (drop l.byte-index l.text) ≡ number_of l.text;
    }
