-- One level of a chain, beside the code that reads it.
use Rattle.std.proofs.Common.{◌≡◌, refl, ap, ◌∙◌, ℕ, suc, List, Some, None}
use Rattle.cx_syntax_tree.specs.declared.terminals.Lexeme.{Lexeme}
use Rattle.cx_syntax_tree.specs.declared.expressions.TreeLor.{TreeLor}
use Rattle.cx_syntax_tree.specs.declared.expressions.TreeLink.{TreeLink}
use Rattle.cx_reading.specs.Parsing.{Parser, and_then, pure, many}
use Rattle.cx_expressions.specs.Expressions.{chained}
use Rattle.cx_expressions.specs.Shapes.Parsers.{Next, link, lor_from, lor}

module _ (next : Next) (level below : ℕ) (first : TreeLor) (ts : List Lexeme) (e : level ≡ suc below)
  where
    abbrev links_behind : TreeLor → Parser TreeLor
    links_behind f = λ us. and_then (many (link level (lor next below)) us) (λ found. pure (chained f found))

    one_level : lor_from next level first ts ≡ and_then (lor_from next below first ts) links_behind
    unfolding lor_from lor
    one_level = rw e refl

    pub first_refused : lor_from next below first ts ≡ None → lor_from next level first ts ≡ None
    first_refused h = one_level ∙ ap (λ o. and_then o links_behind) h

    pub links_refused : (f : TreeLor) (us : List Lexeme) → lor_from next below first ts ≡ Some (f, us)
        → many (link level (lor next below)) us ≡ None → lor_from next level first ts ≡ None
    links_refused f us h k = one_level ∙ ap (λ o. and_then o links_behind) h
        ∙ ap (λ o. and_then o (λ found. pure (chained f found))) k

    pub level_read : (f : TreeLor) (us vs : List Lexeme) (found : List TreeLink)
        → lor_from next below first ts ≡ Some (f, us)
        → many (link level (lor next below)) us ≡ Some (found, vs)
        → lor_from next level first ts ≡ Some (chained f found, vs)
    level_read f us vs found h k = one_level ∙ ap (λ o. and_then o links_behind) h
        ∙ ap (λ o. and_then o (λ found. pure (chained f found))) k
