-- The tree of an operand and the operators behind it.
use Rattle.std.proofs.Common.{◌≡◌, ◌≢◌, refl, List, [], ◌∷◌}
use Rattle.cx_syntax_tree.specs.declared.expressions.TreeLor.{TreeLor}
use Rattle.cx_syntax_tree.specs.declared.expressions.TreeLor.TheVariants as lor_is
use Rattle.cx_syntax_tree.specs.declared.expressions.TreeLink.{TreeLink}
use Rattle.cx_expressions.specs.Expressions.{chained}

pub chained_some : (first : TreeLor) (links : List TreeLink) → links ≢ []
    → chained first links ≡ lor_is.Chain first links
chained_some first [] some = absurd (some refl)
chained_some first (link ∷ links) some = refl
