use Rattle.std.proofs.Common.{◌≡◌, ◌++◌, drop, map}
use Rattle.cx_terminals.specs.Shapes.Names.{lexemes_after, with_identifiers}
use Rattle.cx_terminals.proofs.lexemes.lexemes_of.Given as goal

abbrev pub invariant-loop-token : goal.invariant-loop-token
invariant-loop-token l =
    (l.lexemes ++ lexemes_after l.names l.at (map (λ t. t.now) (drop l.token-index l.tokens))
    ≡ lexemes_after l.initial.names 0 (map (λ t. t.now) l.tokens))
    × (with_identifiers l.names (map (λ t. t.now) (drop l.token-index l.tokens))
    ≡ with_identifiers l.initial.names (map (λ t. t.now) l.tokens))
