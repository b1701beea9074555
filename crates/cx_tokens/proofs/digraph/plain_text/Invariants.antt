use Rattle.std.proofs.Common.{◌≡◌, drop}
use Rattle.std.specs.Prelude.{bytes_eq}
use Rattle.std.specs.List.{find}
use Rattle.std.specs.Option.{option_map_or}
use Rattle.cx_tokens.specs.Digraphs.{digraphs}
use Rattle.cx_tokens.proofs.digraph.plain_text.Given as goal

abbrev pub invariant-loop-spelling : goal.invariant-loop-spelling
invariant-loop-spelling l =
    option_map_or (λ p. p.1.now) (find (λ p. bytes_eq p.0.now l.spelled) (drop l.spelling-index l.spelling-items)) l.spelled
    ≡ option_map_or (λ p. p.1) (find (λ p. bytes_eq p.0 l.spelled) digraphs) l.spelled
