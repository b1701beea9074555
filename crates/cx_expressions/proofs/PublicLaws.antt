-- What the contracts of this crate say, from the laws of the rules.
use Rattle.std.proofs.Common.{◌≡◌, ℕ, suc, ◌+◌, ◌≤◌, List, Result, Ok, Err, arith}
use Rattle.std.specs.Prelude.{IfOk}
use Rattle.cx_syntax_tree.specs.declared.terminals.Lexeme.{Lexeme}
use Rattle.cx_syntax_tree.specs.declared.expressions.TreeExpr.{TreeExpr}
use Rattle.cx_syntax_tree.specs.declared.expressions.TreeAssign.{TreeAssign}
use Rattle.cx_syntax_tree.specs.declared.expressions.TreeCond.{TreeCond}
use Rattle.cx_syntax_tree.specs.declared.expressions.TreeType.{TreeType}
use Rattle.cx_reading.specs.declared.refusal.Refusal.{Refusal}
use Rattle.cx_reading.specs.Types.{IsType}
use Rattle.cx_reading.specs.Parsing.{Reads, Gives}
use Rattle.cx_reading.proofs.TypeLaws.{type_law}
use Rattle.cx_reading.proofs.AnswerLaws.{only_of_reads, one_of_law}
use Rattle.cx_expressions.specs.Expressions.{Assign, Cond, Expr}
use Rattle.cx_expressions.specs.Limits.{ExprWithin, AssignWithin, CondWithin, EndsExpr, EndsAssign, EndsCond}
use Rattle.cx_expressions.specs.Shapes.Parsers.{readers, expr}
use Rattle.cx_expressions.proofs.RoleLaws.{operand_begins_no_type}
use Rattle.cx_expressions.proofs.ExprLaws.{expr_law}
use Rattle.cx_expressions.proofs.NestedLaws.{nested_laws}
use Rattle.cx_expressions.proofs.FuelLaws.{expr_within, deeper, assign_of_nested, cond_of_nested, nested_assign, nested_cond, expr_depth}

pub expr_found : (depth : ℕ) (old new : List Lexeme) (r : Result TreeExpr Refusal)
    → Reads (expr (readers depth) old) r new → IfOk r (λ t. Expr old t new)
expr_found depth old new (Ok t) reads =
    expr_within (assign_of_nested depth) old t new ((expr_law (nested_laws depth)).sound old t new reads)
expr_found depth old new (Err e) reads = tt

pub expr_only : (depth : ℕ) (old new : List Lexeme) (r : Result TreeExpr Refusal)
    → Reads (expr (readers depth) old) r new → (deep : ℕ) (t : TreeExpr) (rest : List Lexeme)
    → deep ≤ depth → ExprWithin deep old t rest → EndsExpr rest → Gives t rest r new
expr_only depth old new r reads deep t rest low h e =
    only_of_reads (expr_law (nested_laws depth)) old new r reads t rest
    (expr_within (deeper deep depth low).assign old t rest h) e

pub assign_found : (depth : ℕ) (old new : List Lexeme) (r : Result TreeAssign Refusal)
    → Reads ((readers depth).assign old) r new → IfOk r (λ t. Assign old t new)
assign_found depth old new (Ok t) reads =
    assign_of_nested depth old t new ((nested_laws depth).assign.sound old t new reads)
assign_found depth old new (Err e) reads = tt

pub assign_only : (depth : ℕ) (old new : List Lexeme) (r : Result TreeAssign Refusal)
    → Reads ((readers depth).assign old) r new → (deep : ℕ) (t : TreeAssign) (rest : List Lexeme)
    → deep ≤ depth → AssignWithin deep old t rest → EndsAssign rest → Gives t rest r new
assign_only depth old new r reads deep t rest low h e =
    only_of_reads (nested_laws depth).assign old new r reads t rest
    ((deeper deep depth low).assign old t rest h) e

pub cond_found : (depth : ℕ) (old new : List Lexeme) (r : Result TreeCond Refusal)
    → Reads ((readers depth).cond old) r new → IfOk r (λ t. Cond old t new)
cond_found depth old new (Ok t) reads =
    cond_of_nested depth old t new ((nested_laws depth).cond.sound old t new reads)
cond_found depth old new (Err e) reads = tt

pub cond_only : (depth : ℕ) (old new : List Lexeme) (r : Result TreeCond Refusal)
    → Reads ((readers depth).cond old) r new → (deep : ℕ) (t : TreeCond) (rest : List Lexeme)
    → deep ≤ depth → CondWithin deep old t rest → EndsCond rest → Gives t rest r new
cond_only depth old new r reads deep t rest low h e =
    only_of_reads (nested_laws depth).cond old new r reads t rest
    ((deeper deep depth low).cond old t rest h) e

pub one_expr : (ts : List Lexeme) (a b : TreeExpr) (us vs : List Lexeme) → Expr ts a us
    → Expr ts b vs → EndsExpr us → EndsExpr vs → (a ≡ b) × (us ≡ vs)
one_expr ts a b us vs h i e f =
    let m = expr_depth ts a us h in
    let n = expr_depth ts b vs i in
    let both = m.depth + n.depth in
    one_of_law (expr_law (nested_laws (m.depth + n.depth))) ts a b us vs
    (expr_within (deeper m.depth (m.depth + n.depth) (omega arith)).assign ts a us m.reads)
    (expr_within (deeper n.depth (m.depth + n.depth) (omega arith)).assign ts b vs n.reads) e f

pub one_assign : (ts : List Lexeme) (a b : TreeAssign) (us vs : List Lexeme) → Assign ts a us
    → Assign ts b vs → EndsAssign us → EndsAssign vs → (a ≡ b) × (us ≡ vs)
one_assign ts a b us vs h i e f =
    one_of_law (nested_laws (suc (h.0 + i.0))).assign ts a b us vs
    (nested_assign h.0 (h.0 + i.0) (omega arith) ts a us h.1)
    (nested_assign i.0 (h.0 + i.0) (omega arith) ts b vs i.1) e f

pub one_cond : (ts : List Lexeme) (a b : TreeCond) (us vs : List Lexeme) → Cond ts a us
    → Cond ts b vs → EndsCond us → EndsCond vs → (a ≡ b) × (us ≡ vs)
one_cond ts a b us vs h i e f =
    one_of_law (nested_laws (suc (h.0 + i.0))).cond ts a b us vs
    (nested_cond h.0 (h.0 + i.0) (omega arith) ts a us h.1)
    (nested_cond i.0 (h.0 + i.0) (omega arith) ts b vs i.1) e f

pub no_type : (ts rest more : List Lexeme) (x : TreeExpr) (t : TreeType) → Expr ts x rest
    → IsType ts t more → ⊥
no_type ts rest more x t h i =
    let d = expr_depth ts x rest h in
    let operand = operand_begins_no_type ts
    ((expr_law (nested_laws d.depth)).begins ts x rest d.reads) in
    let type = type_law.begins ts t more i in
    absurd (cc (operand, type))
