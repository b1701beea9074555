-- The tokens of a tree, in order. A type name is written as a name, since a tag or a member may be
-- either (C11 6.2.3). Each step has the tokens of the parts in the places of the parts.
use Rattle.std.specs.Prelude.{ℕ, List, [], ◌∷◌, ◌++◌, map, Option, Some, None}
use Rattle.cx_syntax_tree.specs.declared.terminals.Keyword.{Keyword}
use Rattle.cx_syntax_tree.specs.declared.terminals.Keyword.TheVariants as word
use Rattle.cx_syntax_tree.specs.declared.terminals.Punctuator.{Punctuator}
use Rattle.cx_syntax_tree.specs.declared.terminals.Punctuator.TheVariants as mark
use Rattle.cx_syntax_tree.specs.declared.terminals.Terminal.{Terminal}
use Rattle.cx_syntax_tree.specs.declared.terminals.Terminal.TheVariants as terminal_is
use Rattle.cx_syntax_tree.specs.declared.terminals.Lexeme.{Lexeme}
use Rattle.cx_syntax_tree.specs.declared.expressions.UnaryOperator.{UnaryOperator}
use Rattle.cx_syntax_tree.specs.declared.expressions.UnaryOperator.TheVariants as unary
use Rattle.cx_syntax_tree.specs.declared.expressions.Step.{Step}
use Rattle.cx_syntax_tree.specs.declared.expressions.Step.TheVariants as step
use Rattle.cx_syntax_tree.specs.declared.expressions.BinaryOperator.{BinaryOperator}
use Rattle.cx_syntax_tree.specs.declared.expressions.BinaryOperator.TheVariants as binary
use Rattle.cx_syntax_tree.specs.declared.expressions.AssignOperator.{AssignOperator}
use Rattle.cx_syntax_tree.specs.declared.expressions.AssignOperator.TheVariants as assign
use Rattle.cx_syntax_tree.specs.declared.expressions.Specifier.{Specifier}
use Rattle.cx_syntax_tree.specs.declared.expressions.Specifier.TheVariants as specifier
use Rattle.cx_syntax_tree.specs.declared.expressions.SpecifierAt.{SpecifierAt}
use Rattle.cx_syntax_tree.specs.declared.expressions.NameAt.{NameAt}
use Rattle.cx_syntax_tree.specs.declared.expressions.BareWords.{BareWords}
use Rattle.cx_syntax_tree.specs.declared.expressions.BareWords.TheVariants as words
use Rattle.cx_syntax_tree.specs.declared.expressions.TreeStar.{TreeStar}
use Rattle.cx_syntax_tree.specs.declared.expressions.TreeStars.{TreeStars}
use Rattle.cx_syntax_tree.specs.declared.expressions.TreeType.{TreeType}
use Rattle.cx_syntax_tree.specs.declared.expressions.TreeAssign.TheOpen.{TreeAssign-F, TreeCast-F, TreeCond-F, TreeHead-F, TreeLor-F, TreeSuffix-F, TreeUnary-F, CommaAssign-F, TreeArguments-F, TreeExpr-F, TreeLink-F, TreePostfix-F}
use Rattle.cx_syntax_tree.specs.declared.expressions.TreeAssign.TheFolds.{fold-TreeAssign, fold-TreeCond, fold-TreeExpr, fold-TreeArguments}
use Rattle.cx_syntax_tree.specs.declared.expressions.TreeAssign.{TreeAssign}
use Rattle.cx_syntax_tree.specs.declared.expressions.TreeCond.{TreeCond}
use Rattle.cx_syntax_tree.specs.declared.expressions.TreeExpr.{TreeExpr}
use Rattle.cx_syntax_tree.specs.declared.expressions.TreeArguments.{TreeArguments}
use Rattle.cx_syntax_tree.specs.declared.declarations.DeclaredName.{DeclaredName}
use Rattle.cx_syntax_tree.specs.declared.declarations.DeclaredName.TheVariants as declared_is
use Rattle.cx_syntax_tree.specs.declared.declarations.CommaEllipsis.{CommaEllipsis}
use Rattle.cx_syntax_tree.specs.declared.declarations.DeclrSuffix.TheOpen.{DeclrSuffix-F, TreeMember-F, TreeParams-F, TreeWords-F, CommaDeclr-F, CommaParam-F, TreeDeclr-F, TreeParam-F, TreeSpec-F}
use Rattle.cx_syntax_tree.specs.declared.declarations.DeclrSuffix.TheFolds.{fold-TreeDeclr, fold-TreeSpec}
use Rattle.cx_syntax_tree.specs.declared.declarations.TreeEnumr.{TreeEnumr}
use Rattle.cx_syntax_tree.specs.declared.declarations.TreeEnumr.TheVariants as enumr_is
use Rattle.cx_syntax_tree.specs.declared.declarations.TreeArray.{TreeArray}
use Rattle.cx_syntax_tree.specs.declared.declarations.TreeSpec.{TreeSpec}
use Rattle.cx_syntax_tree.specs.declared.declarations.TreeDeclr.{TreeDeclr}
use Rattle.cx_syntax_tree.specs.declared.declarations.TreeDecl.{TreeDecl}
use Rattle.cx_syntax_tree.specs.declared.declarations.TreeDecl.TheVariants as decl_is
use Rattle.cx_syntax_tree.specs.declared.declarations.TreeInit.{TreeInit}
use Rattle.cx_syntax_tree.specs.declared.declarations.TreeInit.TheVariants as init_is
use Rattle.cx_syntax_tree.specs.declared.statements.SwitchPart.TheOpen.{SwitchPart-F, TreeStmt-F, TreeBlock-F}
use Rattle.cx_syntax_tree.specs.declared.statements.SwitchPart.TheFolds.{fold-TreeStmt, fold-TreeBlock}
use Rattle.cx_syntax_tree.specs.declared.statements.Bracketed.{Bracketed}
use Rattle.cx_syntax_tree.specs.declared.statements.ForFirst.{ForFirst}
use Rattle.cx_syntax_tree.specs.declared.statements.ForFirst.TheVariants as first_is
use Rattle.cx_syntax_tree.specs.declared.statements.TreeStmt.{TreeStmt}
use Rattle.cx_syntax_tree.specs.declared.statements.TreeBlock.{TreeBlock}
use Rattle.cx_syntax_tree.specs.declared.statements.TreeFunction.{TreeFunction}

abbrev pub Tokens : Type 0
Tokens = List Lexeme

-- the layers of the trees of expressions, declarations and statements
abbrev pub Expression : (Type 0 → Type 0 → Type 0 → Type 0 → Type 0 → Type 0 → Type 0 →
    Type 0 → Type 0 → Type 0 → Type 0 → Type 0 → Type 0) → Type 0
Expression F = F Tokens Tokens Tokens Tokens Tokens Tokens Tokens Tokens Tokens Tokens Tokens Tokens

abbrev pub Declaration : (Type 0 → Type 0 → Type 0 → Type 0 → Type 0 → Type 0 → Type 0 →
    Type 0 → Type 0 → Type 0) → Type 0
Declaration F = F Tokens Tokens Tokens Tokens Tokens Tokens Tokens Tokens Tokens

abbrev pub Statement : (Type 0 → Type 0 → Type 0 → Type 0) → Type 0
Statement F = F Tokens Tokens Tokens

abbrev pub untyped_terminal : Terminal → Terminal
untyped_terminal (terminal_is.TypeName n) = terminal_is.Name n
untyped_terminal t = t

-- a token, and a type name as a name
abbrev pub untyped : Lexeme → Lexeme
untyped p = record p { terminal = untyped_terminal p.terminal }

abbrev pub one : Terminal → ℕ → Tokens
one t at = record { terminal = t; at = at } ∷ []

abbrev pub marked : Punctuator → ℕ → Tokens
marked m at = one (terminal_is.Punctuator m) at

abbrev pub worded : Keyword → ℕ → Tokens
worded k at = one (terminal_is.Keyword k) at

abbrev pub named : NameAt → Tokens
named n = one (terminal_is.Name n.name) n.at

unfoldable pub joined : List Tokens → Tokens
joined [] = []
joined (ts ∷ more) = ts ++ joined more

abbrev pub or_nothing : Option Tokens → Tokens
or_nothing None = []
or_nothing (Some ts) = ts

-- ---- operators (C11 6.5)

abbrev pub unary_mark : UnaryOperator → Punctuator
unary_mark unary.AddressOf = mark.Ampersand
unary_mark unary.Indirection = mark.Star
unary_mark unary.Plus = mark.Plus
unary_mark unary.Minus = mark.Minus
unary_mark unary.Complement = mark.Tilde
unary_mark unary.Not = mark.Exclamation

abbrev pub step_mark : Step → Punctuator
step_mark step.Increment = mark.PlusPlus
step_mark step.Decrement = mark.MinusMinus

abbrev pub binary_mark : BinaryOperator → Punctuator
binary_mark binary.Multiply = mark.Star
binary_mark binary.Divide = mark.Slash
binary_mark binary.Remainder = mark.Percent
binary_mark binary.Add = mark.Plus
binary_mark binary.Subtract = mark.Minus
binary_mark binary.ShiftLeft = mark.LessLess
binary_mark binary.ShiftRight = mark.GreaterGreater
binary_mark binary.Less = mark.Less
binary_mark binary.Greater = mark.Greater
binary_mark binary.LessEqual = mark.LessEqual
binary_mark binary.GreaterEqual = mark.GreaterEqual
binary_mark binary.Equal = mark.EqualEqual
binary_mark binary.NotEqual = mark.ExclamationEqual
binary_mark binary.BitAnd = mark.Ampersand
binary_mark binary.BitXor = mark.Caret
binary_mark binary.BitOr = mark.Bar
binary_mark binary.And = mark.AmpersandAmpersand
binary_mark binary.Or = mark.BarBar

-- C11 6.5.16; there is no op= of any other operator
abbrev pub assign_mark : AssignOperator → Punctuator
assign_mark assign.Simple = mark.Equal
assign_mark (assign.Compound binary.Multiply) = mark.StarEqual
assign_mark (assign.Compound binary.Divide) = mark.SlashEqual
assign_mark (assign.Compound binary.Remainder) = mark.PercentEqual
assign_mark (assign.Compound binary.Add) = mark.PlusEqual
assign_mark (assign.Compound binary.Subtract) = mark.MinusEqual
assign_mark (assign.Compound binary.ShiftLeft) = mark.LessLessEqual
assign_mark (assign.Compound binary.ShiftRight) = mark.GreaterGreaterEqual
assign_mark (assign.Compound binary.BitAnd) = mark.AmpersandEqual
assign_mark (assign.Compound binary.BitXor) = mark.CaretEqual
assign_mark (assign.Compound binary.BitOr) = mark.BarEqual
assign_mark (assign.Compound _) = mark.Equal

-- ---- types without a body (C11 6.7)

abbrev pub specifier_word : Specifier → Keyword
specifier_word specifier.Typedef = word.Typedef
specifier_word specifier.Static = word.Static
specifier_word specifier.Extern = word.Extern
specifier_word specifier.Const = word.Const

abbrev pub specifiers : List SpecifierAt → Tokens
specifiers ts = joined (map (λ t. worded (specifier_word t.specifier) t.at) ts)

abbrev pub bare_words : BareWords → Tokens
bare_words (words.Void at) = worded word.Void at
bare_words (words.Integer ks i) = joined (map (λ k. worded k.keyword k.at) ks)
bare_words (words.Struct at tag) = worded word.Struct at ++ named tag
bare_words (words.Enum at tag) = worded word.Enum at ++ named tag
bare_words (words.TypeName n) = named n

abbrev pub star : TreeStar → Tokens
star t = marked mark.Star t.at ++ joined (map (worded word.Const) t.constants)

abbrev pub stars_of : TreeStars → Tokens
stars_of t = joined (map star t.stars)

unfoldable pub type_written : TreeType → Tokens
type_written t =
    specifiers t.before ++ bare_words t.words ++ specifiers t.behind ++ stars_of t.stars

-- ---- expressions (C11 6.5)

abbrev pub assign_step : Expression TreeAssign-F → Tokens
assign_step (TreeAssign-F.Assign x op at y) = x ++ marked (assign_mark op) at ++ y
assign_step (TreeAssign-F.Cond c) = c

abbrev pub cast_step : Expression TreeCast-F → Tokens
cast_step (TreeCast-F.TreeCast::Cast p t q x) =
    marked mark.OpenRound p ++ type_written t ++ marked mark.CloseRound q ++ x
cast_step (TreeCast-F.Unary x) = x

abbrev pub cond_step : Expression TreeCond-F → Tokens
cond_step (TreeCond-F.Choice c p x q y) =
    c ++ marked mark.Question p ++ x ++ marked mark.Colon q ++ y
cond_step (TreeCond-F.Lor c) = c

abbrev pub head_step : Expression TreeHead-F → Tokens
head_step (TreeHead-F.Call f p xs q) =
    named f ++ marked mark.OpenRound p ++ or_nothing xs ++ marked mark.CloseRound q
head_step (TreeHead-F.Name n) = named n
head_step (TreeHead-F.Number at) = one terminal_is.Number at
head_step (TreeHead-F.Char at) = one terminal_is.Char at
head_step (TreeHead-F.String at) = one terminal_is.String at
head_step (TreeHead-F.Brackets p x q) = marked mark.OpenRound p ++ x ++ marked mark.CloseRound q

abbrev pub lor_step : Expression TreeLor-F → Tokens
lor_step (TreeLor-F.Chain first links) = first ++ joined links
lor_step (TreeLor-F.TreeLor::Cast x) = x

abbrev pub suffix_step : Expression TreeSuffix-F → Tokens
suffix_step (TreeSuffix-F.Index p x q) = marked mark.OpenSquare p ++ x ++ marked mark.CloseSquare q
suffix_step (TreeSuffix-F.Dot at member) = marked mark.Dot at ++ named member
suffix_step (TreeSuffix-F.Arrow at member) = marked mark.Arrow at ++ named member
suffix_step (TreeSuffix-F.TreeSuffix::Step s at) = marked (step_mark s) at

abbrev pub unary_step : Expression TreeUnary-F → Tokens
unary_step (TreeUnary-F.TreeUnary::Step s at x) = marked (step_mark s) at ++ x
unary_step (TreeUnary-F.Operator op at x) = marked (unary_mark op) at ++ x
unary_step (TreeUnary-F.SizeofUnary at x) = worded word.Sizeof at ++ x
unary_step (TreeUnary-F.SizeofType at p t q) =
    worded word.Sizeof at ++ marked mark.OpenRound p ++ type_written t ++ marked mark.CloseRound q
unary_step (TreeUnary-F.Postfix x) = x

abbrev pub comma_step : Expression CommaAssign-F → Tokens
comma_step t = marked mark.Comma t.comma ++ t.assign

abbrev pub arguments_step : Expression TreeArguments-F → Tokens
arguments_step t = t.first ++ joined t.more

abbrev pub expr_step : Expression TreeExpr-F → Tokens
expr_step t = t.first ++ joined t.more

abbrev pub link_step : Expression TreeLink-F → Tokens
link_step t = marked (binary_mark t.operator) t.at ++ t.operand

abbrev pub postfix_step : Expression TreePostfix-F → Tokens
postfix_step t = t.head ++ joined t.suffixes

unfoldable pub assign_written : TreeAssign → Tokens
assign_written =
    fold-TreeAssign Tokens Tokens Tokens Tokens Tokens Tokens Tokens Tokens Tokens Tokens Tokens Tokens
    assign_step cast_step cond_step head_step lor_step suffix_step unary_step comma_step
    arguments_step expr_step link_step postfix_step

unfoldable pub cond_written : TreeCond → Tokens
cond_written =
    fold-TreeCond Tokens Tokens Tokens Tokens Tokens Tokens Tokens Tokens Tokens Tokens Tokens Tokens
    assign_step cast_step cond_step head_step lor_step suffix_step unary_step comma_step
    arguments_step expr_step link_step postfix_step

unfoldable pub expr_written : TreeExpr → Tokens
expr_written =
    fold-TreeExpr Tokens Tokens Tokens Tokens Tokens Tokens Tokens Tokens Tokens Tokens Tokens Tokens
    assign_step cast_step cond_step head_step lor_step suffix_step unary_step comma_step
    arguments_step expr_step link_step postfix_step

unfoldable pub arguments_written : TreeArguments → Tokens
arguments_written =
    fold-TreeArguments Tokens Tokens Tokens Tokens Tokens Tokens Tokens Tokens Tokens Tokens Tokens
    Tokens
    assign_step cast_step cond_step head_step lor_step suffix_step unary_step comma_step
    arguments_step expr_step link_step postfix_step

-- ---- declarations (C11 6.7)

abbrev pub enumr_written : TreeEnumr → Tokens
enumr_written (enumr_is.Plain n) = named n
enumr_written (enumr_is.Given n at c) = named n ++ marked mark.Equal at ++ cond_written c

abbrev pub maybe_cond : Option TreeCond → Tokens
maybe_cond None = []
maybe_cond (Some c) = cond_written c

abbrev pub array_written : TreeArray → Tokens
array_written a =
    marked mark.OpenSquare a.opening ++ maybe_cond a.length ++ marked mark.CloseSquare a.closing

abbrev pub maybe_array : Option TreeArray → Tokens
maybe_array None = []
maybe_array (Some a) = array_written a

abbrev pub maybe_name : Option NameAt → Tokens
maybe_name None = []
maybe_name (Some n) = named n

abbrev pub maybe_comma : Option ℕ → Tokens
maybe_comma None = []
maybe_comma (Some at) = marked mark.Comma at

abbrev pub maybe_ellipsis : Option CommaEllipsis → Tokens
maybe_ellipsis None = []
maybe_ellipsis (Some t) = marked mark.Comma t.comma ++ marked mark.Ellipsis t.at

abbrev pub declared_name : DeclaredName → Tokens
declared_name (declared_is.Plain n) = named n
declared_name (declared_is.Brackets p n q) =
    marked mark.OpenRound p ++ named n ++ marked mark.CloseRound q

abbrev pub behind_step : Declaration DeclrSuffix-F → Tokens
behind_step DeclrSuffix-F.DeclrSuffix::Nothing = []
behind_step (DeclrSuffix-F.Array a) = array_written a
behind_step (DeclrSuffix-F.Function p x q) = marked mark.OpenRound p ++ x
    ++ marked mark.CloseRound q

abbrev pub member_step : Declaration TreeMember-F → Tokens
member_step (TreeMember-F.Declared spec first more q) =
    spec ++ first ++ joined more ++ marked mark.Semicolon q
member_step (TreeMember-F.Opaque ts q) = map untyped ts ++ marked mark.Semicolon q

abbrev pub params_step : Declaration TreeParams-F → Tokens
params_step TreeParams-F.TreeParams::Nothing = []
params_step (TreeParams-F.Void at) = worded word.Void at
params_step (TreeParams-F.Some first more dots) = first ++ joined more ++ maybe_ellipsis dots

abbrev pub words_step : Declaration TreeWords-F → Tokens
words_step (TreeWords-F.Bare w) = bare_words w
words_step (TreeWords-F.StructBody at tag p members q) =
    worded word.Struct at ++ maybe_name tag ++ marked mark.OpenCurly p ++ joined members
    ++ marked mark.CloseCurly q
words_step (TreeWords-F.EnumBody at tag p first more last q) =
    worded word.Enum at ++ maybe_name tag ++ marked mark.OpenCurly p ++ enumr_written first
    ++ joined (map (λ t. marked mark.Comma t.comma ++ enumr_written t.enumr) more)
    ++ maybe_comma last ++ marked mark.CloseCurly q

abbrev pub comma_declr_step : Declaration CommaDeclr-F → Tokens
comma_declr_step t = marked mark.Comma t.comma ++ t.declr

abbrev pub comma_param_step : Declaration CommaParam-F → Tokens
comma_param_step t = marked mark.Comma t.comma ++ t.param

abbrev pub declr_step : Declaration TreeDeclr-F → Tokens
declr_step t = stars_of t.stars ++ declared_name t.name ++ t.suffix

abbrev pub param_step : Declaration TreeParam-F → Tokens
param_step t = t.spec ++ stars_of t.stars ++ maybe_name t.name ++ maybe_array t.array

abbrev pub spec_step : Declaration TreeSpec-F → Tokens
spec_step t = specifiers t.before ++ t.words ++ specifiers t.behind

unfoldable pub declr_written : TreeDeclr → Tokens
declr_written =
    fold-TreeDeclr Tokens Tokens Tokens Tokens Tokens Tokens Tokens Tokens Tokens behind_step
    member_step params_step words_step comma_declr_step comma_param_step declr_step param_step
    spec_step

unfoldable pub spec_written : TreeSpec → Tokens
spec_written =
    fold-TreeSpec Tokens Tokens Tokens Tokens Tokens Tokens Tokens Tokens Tokens behind_step
    member_step params_step words_step comma_declr_step comma_param_step declr_step param_step
    spec_step

abbrev pub init_written : TreeInit → Tokens
init_written (init_is.Plain t) = declr_written t
init_written (init_is.Value t at x) = declr_written t ++ marked mark.Equal at ++ assign_written x
init_written (init_is.Braces t at p xs last q) =
    declr_written t ++ marked mark.Equal at ++ marked mark.OpenCurly p ++ arguments_written xs
    ++ maybe_comma last ++ marked mark.CloseCurly q

unfoldable pub decl_written : TreeDecl → Tokens
decl_written (decl_is.Bare s q) = spec_written s ++ marked mark.Semicolon q
decl_written (decl_is.Declares s x xs q) =
    spec_written s ++ init_written x
    ++ joined (map (λ t. marked mark.Comma t.comma ++ init_written t.init) xs)
    ++ marked mark.Semicolon q

-- ---- statements (C11 6.8)

abbrev pub in_round : Bracketed → Tokens
in_round c =
    marked mark.OpenRound c.opening ++ expr_written c.inner ++ marked mark.CloseRound c.closing

abbrev pub maybe_expr : Option TreeExpr → Tokens
maybe_expr None = []
maybe_expr (Some x) = expr_written x

abbrev pub first_written : ForFirst → Tokens
first_written (first_is.Decl t) = decl_written t
first_written (first_is.Expr x q) = maybe_expr x ++ marked mark.Semicolon q

abbrev pub stmt_step : Statement TreeStmt-F → Tokens
stmt_step (TreeStmt-F.Decl t) = decl_written t
stmt_step (TreeStmt-F.Block x) = x
stmt_step (TreeStmt-F.Expr x q) = maybe_expr x ++ marked mark.Semicolon q
stmt_step (TreeStmt-F.If at c x) = worded word.If at ++ in_round c ++ x
stmt_step (TreeStmt-F.IfElse at c x at' y) =
    worded word.If at ++ in_round c ++ x ++ worded word.Else at' ++ y
stmt_step (TreeStmt-F.While at c x) = worded word.While at ++ in_round c ++ x
stmt_step (TreeStmt-F.DoWhile at x at' c q) =
    worded word.Do at ++ x ++ worded word.While at' ++ in_round c ++ marked mark.Semicolon q
stmt_step (TreeStmt-F.For at p first condition q third r x) =
    worded word.For at ++ marked mark.OpenRound p ++ first_written first ++ maybe_expr condition
    ++ marked mark.Semicolon q ++ maybe_expr third ++ marked mark.CloseRound r ++ x
stmt_step (TreeStmt-F.Switch at c p parts q) =
    worded word.Switch at ++ in_round c ++ marked mark.OpenCurly p ++ joined parts
    ++ marked mark.CloseCurly q
stmt_step (TreeStmt-F.Break at q) = worded word.Break at ++ marked mark.Semicolon q
stmt_step (TreeStmt-F.Continue at q) = worded word.Continue at ++ marked mark.Semicolon q
stmt_step (TreeStmt-F.Goto at label q) =
    worded word.Goto at ++ named label ++ marked mark.Semicolon q
stmt_step (TreeStmt-F.Label label at x) = named label ++ marked mark.Colon at ++ x
stmt_step (TreeStmt-F.Return at x q) =
    worded word.Return at ++ maybe_expr x ++ marked mark.Semicolon q

abbrev pub part_step : Statement SwitchPart-F → Tokens
part_step (SwitchPart-F.Case at c q) = worded word.Case at ++ cond_written c ++ marked mark.Colon q
part_step (SwitchPart-F.Default at q) = worded word.Default at ++ marked mark.Colon q
part_step (SwitchPart-F.Stmt x) = x

abbrev pub block_step : Statement TreeBlock-F → Tokens
block_step t =
    marked mark.OpenCurly t.opening ++ joined t.statements ++ marked mark.CloseCurly t.closing

unfoldable pub stmt_written : TreeStmt → Tokens
stmt_written = fold-TreeStmt Tokens Tokens Tokens part_step stmt_step block_step

unfoldable pub block_written : TreeBlock → Tokens
block_written = fold-TreeBlock Tokens Tokens Tokens part_step stmt_step block_step

unfoldable pub function_written : TreeFunction → Tokens
function_written t = spec_written t.spec ++ declr_written t.declr ++ block_written t.block
