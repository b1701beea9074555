-- How deep a tree is: the greatest number of statements, operators, calls, indexings, member
-- accesses and casts that hold one token. Brackets, initialisers and the braces of a switch do
-- not count.
-- Each step has the depths of the parts in the places of the parts.
use Rattle.std.specs.Prelude.{ℕ, zero, suc, max, List, [], ◌∷◌, map, Option, Some, None}
use Rattle.cx_syntax_tree.specs.declared.expressions.TreeAssign.TheOpen.{TreeAssign-F, TreeCast-F, TreeCond-F, TreeHead-F, TreeLor-F, TreeSuffix-F, TreeUnary-F, CommaAssign-F, TreeArguments-F, TreeExpr-F, TreeLink-F, TreePostfix-F}
use Rattle.cx_syntax_tree.specs.declared.expressions.TreeAssign.TheFolds.{fold-TreeAssign, fold-TreeCond, fold-TreeExpr, fold-TreeArguments}
use Rattle.cx_syntax_tree.specs.declared.expressions.TreeAssign.{TreeAssign}
use Rattle.cx_syntax_tree.specs.declared.expressions.TreeCond.{TreeCond}
use Rattle.cx_syntax_tree.specs.declared.expressions.TreeExpr.{TreeExpr}
use Rattle.cx_syntax_tree.specs.declared.expressions.TreeArguments.{TreeArguments}
use Rattle.cx_syntax_tree.specs.declared.declarations.DeclrSuffix.TheOpen.{DeclrSuffix-F, TreeMember-F, TreeParams-F, TreeWords-F, CommaDeclr-F, CommaParam-F, TreeDeclr-F, TreeParam-F, TreeSpec-F}
use Rattle.cx_syntax_tree.specs.declared.declarations.DeclrSuffix.TheFolds.{fold-TreeMember, fold-TreeDeclr, fold-TreeSpec}
use Rattle.cx_syntax_tree.specs.declared.declarations.TreeEnumr.{TreeEnumr}
use Rattle.cx_syntax_tree.specs.declared.declarations.TreeEnumr.TheVariants as enumr_is
use Rattle.cx_syntax_tree.specs.declared.declarations.TreeArray.{TreeArray}
use Rattle.cx_syntax_tree.specs.declared.declarations.TreeMember.{TreeMember}
use Rattle.cx_syntax_tree.specs.declared.declarations.TreeSpec.{TreeSpec}
use Rattle.cx_syntax_tree.specs.declared.declarations.TreeDeclr.{TreeDeclr}
use Rattle.cx_syntax_tree.specs.declared.declarations.TreeDecl.{TreeDecl}
use Rattle.cx_syntax_tree.specs.declared.declarations.TreeDecl.TheVariants as decl_is
use Rattle.cx_syntax_tree.specs.declared.declarations.TreeInit.{TreeInit}
use Rattle.cx_syntax_tree.specs.declared.declarations.TreeInit.TheVariants as init_is
use Rattle.cx_syntax_tree.specs.declared.statements.SwitchPart.TheOpen.{SwitchPart-F, TreeStmt-F, TreeBlock-F}
use Rattle.cx_syntax_tree.specs.declared.statements.SwitchPart.TheFolds.{fold-TreeStmt, fold-TreeBlock}
use Rattle.cx_syntax_tree.specs.declared.statements.ForFirst.{ForFirst}
use Rattle.cx_syntax_tree.specs.declared.statements.ForFirst.TheVariants as first_is
use Rattle.cx_syntax_tree.specs.declared.statements.TreeStmt.{TreeStmt}
use Rattle.cx_syntax_tree.specs.declared.statements.TreeBlock.{TreeBlock}
use Rattle.cx_syntax_tree.specs.declared.statements.TreeFunction.{TreeFunction}

-- the layers of the trees of expressions, declarations and statements
abbrev pub Expression : (Type 0 → Type 0 → Type 0 → Type 0 → Type 0 → Type 0 → Type 0 →
    Type 0 → Type 0 → Type 0 → Type 0 → Type 0 → Type 0) → Type 0
Expression F = F ℕ ℕ ℕ ℕ ℕ ℕ ℕ ℕ ℕ ℕ ℕ ℕ

abbrev pub Declaration : (Type 0 → Type 0 → Type 0 → Type 0 → Type 0 → Type 0 → Type 0 →
    Type 0 → Type 0 → Type 0) → Type 0
Declaration F = F ℕ ℕ ℕ ℕ ℕ ℕ ℕ ℕ ℕ

abbrev pub Statement : (Type 0 → Type 0 → Type 0 → Type 0) → Type 0
Statement F = F ℕ ℕ ℕ

unfoldable pub greatest_of : List ℕ → ℕ
greatest_of [] = zero
greatest_of (n ∷ ns) = max n (greatest_of ns)

-- operators that follow one another: each holds all that stands before it, and its own operand
unfoldable pub climbed : ℕ → List ℕ → ℕ
climbed d [] = d
climbed d (n ∷ ns) = climbed (suc (max d n)) ns

abbrev pub or_zero : Option ℕ → ℕ
or_zero None = zero
or_zero (Some n) = n

-- ---- expressions

abbrev pub assign_step : Expression TreeAssign-F → ℕ
assign_step (TreeAssign-F.Assign x op at y) = suc (max x y)
assign_step (TreeAssign-F.Cond c) = c

abbrev pub cast_step : Expression TreeCast-F → ℕ
cast_step (TreeCast-F.TreeCast::Cast p t q x) = suc x
cast_step (TreeCast-F.Unary x) = x

abbrev pub cond_step : Expression TreeCond-F → ℕ
cond_step (TreeCond-F.Choice c p x q y) = suc (max c (max x y))
cond_step (TreeCond-F.Lor c) = c

abbrev pub head_step : Expression TreeHead-F → ℕ
head_step (TreeHead-F.Call f p xs q) = suc (or_zero xs)
head_step (TreeHead-F.Brackets p x q) = x
head_step _ = zero

abbrev pub lor_step : Expression TreeLor-F → ℕ
lor_step (TreeLor-F.Chain first links) = climbed first links
lor_step (TreeLor-F.TreeLor::Cast x) = x

abbrev pub suffix_step : Expression TreeSuffix-F → ℕ
suffix_step (TreeSuffix-F.Index p x q) = x
suffix_step _ = zero

abbrev pub unary_step : Expression TreeUnary-F → ℕ
unary_step (TreeUnary-F.TreeUnary::Step s at x) = suc x
unary_step (TreeUnary-F.Operator op at x) = suc x
unary_step (TreeUnary-F.SizeofUnary at x) = suc x
unary_step (TreeUnary-F.SizeofType at p t q) = 1
unary_step (TreeUnary-F.Postfix x) = x

abbrev pub comma_step : Expression CommaAssign-F → ℕ
comma_step t = t.assign

-- commas between arguments are no operators
abbrev pub arguments_step : Expression TreeArguments-F → ℕ
arguments_step t = max t.first (greatest_of t.more)

abbrev pub expr_step : Expression TreeExpr-F → ℕ
expr_step t = climbed t.first t.more

abbrev pub link_step : Expression TreeLink-F → ℕ
link_step t = t.operand

abbrev pub postfix_step : Expression TreePostfix-F → ℕ
postfix_step t = climbed t.head t.suffixes

unfoldable pub assign_depth : TreeAssign → ℕ
assign_depth =
    fold-TreeAssign ℕ ℕ ℕ ℕ ℕ ℕ ℕ ℕ ℕ ℕ ℕ ℕ assign_step cast_step cond_step head_step lor_step
    suffix_step unary_step comma_step arguments_step expr_step link_step postfix_step

unfoldable pub cond_depth : TreeCond → ℕ
cond_depth =
    fold-TreeCond ℕ ℕ ℕ ℕ ℕ ℕ ℕ ℕ ℕ ℕ ℕ ℕ assign_step cast_step cond_step head_step lor_step
    suffix_step unary_step comma_step arguments_step expr_step link_step postfix_step

unfoldable pub expr_depth : TreeExpr → ℕ
expr_depth =
    fold-TreeExpr ℕ ℕ ℕ ℕ ℕ ℕ ℕ ℕ ℕ ℕ ℕ ℕ assign_step cast_step cond_step head_step lor_step
    suffix_step unary_step comma_step arguments_step expr_step link_step postfix_step

unfoldable pub arguments_depth : TreeArguments → ℕ
arguments_depth =
    fold-TreeArguments ℕ ℕ ℕ ℕ ℕ ℕ ℕ ℕ ℕ ℕ ℕ ℕ assign_step cast_step cond_step head_step lor_step
    suffix_step unary_step comma_step arguments_step expr_step link_step postfix_step

-- ---- declarations

abbrev pub enumr_depth : TreeEnumr → ℕ
enumr_depth (enumr_is.Plain n) = zero
enumr_depth (enumr_is.Given n at c) = cond_depth c

abbrev pub length_depth : Option TreeCond → ℕ
length_depth None = zero
length_depth (Some c) = cond_depth c

abbrev pub array_depth : Option TreeArray → ℕ
array_depth None = zero
array_depth (Some a) = length_depth a.length

abbrev pub behind_step : Declaration DeclrSuffix-F → ℕ
behind_step DeclrSuffix-F.DeclrSuffix::Nothing = zero
behind_step (DeclrSuffix-F.Array a) = length_depth a.length
behind_step (DeclrSuffix-F.Function p x q) = x

abbrev pub member_step : Declaration TreeMember-F → ℕ
member_step (TreeMember-F.Declared spec first more q) = max spec (max first (greatest_of more))
member_step (TreeMember-F.Opaque tokens q) = zero

abbrev pub params_step : Declaration TreeParams-F → ℕ
params_step TreeParams-F.TreeParams::Nothing = zero
params_step (TreeParams-F.Void at) = zero
params_step (TreeParams-F.Some first more dots) = max first (greatest_of more)

abbrev pub words_step : Declaration TreeWords-F → ℕ
words_step (TreeWords-F.Bare w) = zero
words_step (TreeWords-F.StructBody at tag p members q) = greatest_of members
words_step (TreeWords-F.EnumBody at tag p first more last q) =
    max (enumr_depth first) (greatest_of (map (λ x. enumr_depth x.enumr) more))

abbrev pub comma_declr_step : Declaration CommaDeclr-F → ℕ
comma_declr_step t = t.declr

abbrev pub comma_param_step : Declaration CommaParam-F → ℕ
comma_param_step t = t.param

abbrev pub declr_step : Declaration TreeDeclr-F → ℕ
declr_step t = t.suffix

abbrev pub param_step : Declaration TreeParam-F → ℕ
param_step t = max t.spec (array_depth t.array)

abbrev pub spec_step : Declaration TreeSpec-F → ℕ
spec_step t = t.words

unfoldable pub member_depth : TreeMember → ℕ
member_depth =
    fold-TreeMember ℕ ℕ ℕ ℕ ℕ ℕ ℕ ℕ ℕ behind_step member_step params_step words_step
    comma_declr_step comma_param_step declr_step param_step spec_step

unfoldable pub declr_depth : TreeDeclr → ℕ
declr_depth =
    fold-TreeDeclr ℕ ℕ ℕ ℕ ℕ ℕ ℕ ℕ ℕ behind_step member_step params_step words_step
    comma_declr_step comma_param_step declr_step param_step spec_step

unfoldable pub spec_depth : TreeSpec → ℕ
spec_depth =
    fold-TreeSpec ℕ ℕ ℕ ℕ ℕ ℕ ℕ ℕ ℕ behind_step member_step params_step words_step
    comma_declr_step comma_param_step declr_step param_step spec_step

abbrev pub init_depth : TreeInit → ℕ
init_depth (init_is.Plain t) = declr_depth t
init_depth (init_is.Value t at x) = max (declr_depth t) (assign_depth x)
init_depth (init_is.Braces t at p xs last q) = max (declr_depth t) (arguments_depth xs)

unfoldable pub decl_depth : TreeDecl → ℕ
decl_depth (decl_is.Bare s q) = spec_depth s
decl_depth (decl_is.Declares s x xs q) =
    max (spec_depth s) (max (init_depth x) (greatest_of (map (λ t. init_depth t.init) xs)))

-- ---- statements

abbrev pub value_depth : Option TreeExpr → ℕ
value_depth None = zero
value_depth (Some x) = expr_depth x

abbrev pub first_depth : ForFirst → ℕ
first_depth (first_is.Decl t) = decl_depth t
first_depth (first_is.Expr x at) = value_depth x

-- a statement holds all its tokens
abbrev pub stmt_step : Statement TreeStmt-F → ℕ
stmt_step (TreeStmt-F.Decl t) = suc (decl_depth t)
stmt_step (TreeStmt-F.Block x) = suc x
stmt_step (TreeStmt-F.Expr x q) = suc (value_depth x)
stmt_step (TreeStmt-F.If at c x) = suc (max (expr_depth c.inner) x)
stmt_step (TreeStmt-F.IfElse at c x at' y) = suc (max (expr_depth c.inner) (max x y))
stmt_step (TreeStmt-F.While at c x) = suc (max (expr_depth c.inner) x)
stmt_step (TreeStmt-F.DoWhile at x at' c q) = suc (max x (expr_depth c.inner))
stmt_step (TreeStmt-F.For at p first condition q third r x) =
    suc (max (max (first_depth first) (value_depth condition)) (max (value_depth third) x))
stmt_step (TreeStmt-F.Switch at c p parts q) = suc (max (expr_depth c.inner) (greatest_of parts))
stmt_step (TreeStmt-F.Label label at x) = suc x
stmt_step (TreeStmt-F.Return at x q) = suc (value_depth x)
stmt_step _ = 1

abbrev pub part_step : Statement SwitchPart-F → ℕ
part_step (SwitchPart-F.Case at c q) = cond_depth c
part_step (SwitchPart-F.Default at q) = zero
part_step (SwitchPart-F.Stmt x) = x

abbrev pub block_step : Statement TreeBlock-F → ℕ
block_step t = greatest_of t.statements

unfoldable pub stmt_depth : TreeStmt → ℕ
stmt_depth = fold-TreeStmt ℕ ℕ ℕ part_step stmt_step block_step

-- of a function's own block, which is no statement
unfoldable pub block_depth : TreeBlock → ℕ
block_depth = fold-TreeBlock ℕ ℕ ℕ part_step stmt_step block_step

unfoldable pub function_depth : TreeFunction → ℕ
function_depth t = max (spec_depth t.spec) (max (declr_depth t.declr) (block_depth t.block))
