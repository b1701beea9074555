-- The rules of expressions on small lists of tokens, computed.
use Rattle.std.proofs.Common.{◌≡◌, refl, zero-le, ℕ, suc, List, [], ◌∷◌}
use Rattle.cx_tree.specs.declared.types.IntType.TheVariants as int_type
use Rattle.cx_syntax_tree.specs.declared.terminals.Keyword.{Keyword}
use Rattle.cx_syntax_tree.specs.declared.terminals.Keyword.TheVariants as word
use Rattle.cx_syntax_tree.specs.declared.terminals.Punctuator.{Punctuator}
use Rattle.cx_syntax_tree.specs.declared.terminals.Punctuator.TheVariants as mark
use Rattle.cx_syntax_tree.specs.declared.terminals.Terminal.TheVariants as terminal_is
use Rattle.cx_syntax_tree.specs.declared.terminals.Lexeme.{Lexeme}
use Rattle.cx_syntax_tree.specs.declared.expressions.BinaryOperator.{BinaryOperator}
use Rattle.cx_syntax_tree.specs.declared.expressions.BinaryOperator.TheVariants as binary
use Rattle.cx_syntax_tree.specs.declared.expressions.UnaryOperator.TheVariants as unary
use Rattle.cx_syntax_tree.specs.declared.expressions.BareWords.TheVariants as words
use Rattle.cx_syntax_tree.specs.declared.expressions.TreeType.{TreeType}
use Rattle.cx_syntax_tree.specs.declared.expressions.TreeExpr.{TreeExpr, roll-TreeExpr}
use Rattle.cx_syntax_tree.specs.declared.expressions.TreeAssign.{the_lemmas as expr_lemmas}
use Rattle.cx_syntax_tree.specs.declared.expressions.TreeAssign.TheVariants as assign_is
use Rattle.cx_syntax_tree.specs.declared.expressions.TreeCond.{TreeCond}
use Rattle.cx_syntax_tree.specs.declared.expressions.TreeCond.TheVariants as cond_is
use Rattle.cx_syntax_tree.specs.declared.expressions.TreeLor.{TreeLor}
use Rattle.cx_syntax_tree.specs.declared.expressions.TreeLor.TheVariants as lor_is
use Rattle.cx_syntax_tree.specs.declared.expressions.TreeLink.{TreeLink, roll-TreeLink}
use Rattle.cx_syntax_tree.specs.declared.expressions.TreeCast.TheVariants as cast_is
use Rattle.cx_syntax_tree.specs.declared.expressions.TreeUnary.{TreeUnary}
use Rattle.cx_syntax_tree.specs.declared.expressions.TreeUnary.TheVariants as unary_is
use Rattle.cx_syntax_tree.specs.declared.expressions.TreePostfix.{roll-TreePostfix}
use Rattle.cx_syntax_tree.specs.declared.expressions.TreeHead.{TreeHead}
use Rattle.cx_syntax_tree.specs.declared.expressions.TreeHead.TheVariants as head_is
use Rattle.cx_syntax_tree.specs.Written.{cond_written, joined}
use Rattle.cx_reading.specs.Rules.{no_more, one_more}
use Rattle.cx_reading.specs.Types.{type_of_row, is_rearranged, occurrences, IsType, a_type, some_stars, type_name, integer, a_keyword, storage_count}
use Rattle.cx_reading.specs.Types as t
use Rattle.cx_expressions.specs.Operators.{binary_operator, unary_operator}
use Rattle.cx_expressions.specs.Expressions as e

-- ---- tokens and small trees

abbrev name : ℕ → ℕ → Lexeme
name n at = record { terminal = terminal_is.Name n; at = at }

abbrev type : ℕ → ℕ → Lexeme
type n at = record { terminal = terminal_is.TypeName n; at = at }

abbrev punct : Punctuator → ℕ → Lexeme
punct m at = record { terminal = terminal_is.Punctuator m; at = at }

abbrev key : Keyword → ℕ → Lexeme
key k at = record { terminal = terminal_is.Keyword k; at = at }

abbrev number : ℕ → Lexeme
number at = record { terminal = terminal_is.Number; at = at }

abbrev unary_tree : TreeHead → TreeUnary
unary_tree h = unary_is.Postfix (roll-TreePostfix (record { head = h; suffixes = [] }))

abbrev lor_tree : TreeUnary → TreeLor
lor_tree u = lor_is.Cast (cast_is.Unary u)

abbrev name_tree : ℕ → ℕ → TreeLor
name_tree n at = lor_tree (unary_tree (head_is.Name (record { name = n; at = at })))

abbrev number_tree : ℕ → TreeLor
number_tree at = lor_tree (unary_tree (head_is.Number at))

abbrev link : BinaryOperator → ℕ → TreeLor → TreeLink
link op at t = roll-TreeLink (record { operator = op; at = at; operand = t })

-- ---- derivations

head_alone : {i : e.Nested} {ts rest : List Lexeme} {h : TreeHead} → e.IsHead i ts h rest
    → e.IsUnary i ts (unary_tree h) rest
head_alone d = e.a_postfix_alone (e.a_postfix d no_more refl) refl

module _ (i : e.Nested) where
  operand : (ts rest : List Lexeme) (u : TreeUnary) → e.IsUnary i ts u rest
      → e.IsLor i 0 ts (lor_tree u) rest
  unfolding e.IsLor
  operand ts rest u d = e.an_operand (e.a_unary d refl) refl

  up : (k : ℕ) (ts rest : List Lexeme) (t : TreeLor) → e.IsLor i k ts t rest
      → e.IsLor i (suc k) ts t rest
  unfolding e.IsLor
  up k ts rest t d = e.a_chain d no_more refl

  -- an expression with no operator of a level above this one has none above
  from_two : (ts rest : List Lexeme) (t : TreeLor) → e.IsLor i 2 ts t rest → e.IsLor i 10 ts t rest
  from_two ts rest t d =
      up 9 ts rest t (up 8 ts rest t (up 7 ts rest t (up 6 ts rest t (up 5 ts rest t
      (up 4 ts rest t (up 3 ts rest t (up 2 ts rest t d)))))))

  from_zero : (ts rest : List Lexeme) (t : TreeLor) → e.IsLor i 0 ts t rest
      → e.IsLor i 10 ts t rest
  from_zero ts rest t d = from_two ts rest t (up 1 ts rest t (up 0 ts rest t d))

  a_name : (n at : ℕ) (rest : List Lexeme)
      → e.IsUnary i (name n at ∷ rest) (unary_tree (head_is.Name (record {
        name = n;
        at =
            at;
      }))) rest
  a_name n at rest = head_alone (e.a_name refl refl)

  name_lor : (n at : ℕ) (rest : List Lexeme) → e.IsLor i 0 (name n at ∷ rest) (name_tree n at) rest
  name_lor n at rest = operand (name n at ∷ rest) rest _ (a_name n at rest)

-- C11 6.5.6: a - b - c is (a - b) - c, one chain
minus : e.Cond
    (name 0 0 ∷ punct mark.Minus 1 ∷ name 1 2 ∷ punct mark.Minus 3 ∷ name 2 4 ∷ [])
    (cond_is.Lor (lor_is.Chain (name_tree 0 0)
    (link binary.Subtract 1 (name_tree 1 2) ∷ link binary.Subtract 3 (name_tree 2 4) ∷ [])))
    []
unfolding e.IsLor binary_operator
minus =
    let i = e.nested 0 in
    let one : (n at : ℕ) (rest : List Lexeme)
    → e.IsLor i 1 (name n at ∷ rest) (name_tree n at) rest =
    λ n at rest. up i 0 (name n at ∷ rest) rest (name_tree n at) (name_lor i n at rest) in (
      0,
      e.a_lor _ (from_two i _ _ _ (e.a_chain (one 0 0 _)
          (one_more (e.a_link refl refl (one 1 2 _) refl)
          (one_more (e.a_link refl refl (one 2 4 _) refl) no_more)) refl)) refl,
    )

-- C11 6.5.4: (T) - 1 is a cast of -1 where T is the name of a type ..
type_tree : ℕ → ℕ → TreeType
type_tree n at = record {
  before = [];
  words = words.TypeName (record { name = n; at = at });
  behind = [];
  stars = record { stars = [] };
}

a_type_name : (n at : ℕ) (rest : List Lexeme) → IsType (type n at ∷ rest) (type_tree n at) rest
unfolding type_tree storage_count
a_type_name n at rest = a_type no_more (type_name refl refl) no_more zero-le
    (some_stars no_more refl) refl

a_cast : e.Cond
    (punct mark.OpenRound 0 ∷ type 0 1 ∷ punct mark.CloseRound 2 ∷ punct mark.Minus 3 ∷ number 4
    ∷ [])
    (cond_is.Lor (lor_is.Cast (cast_is.Cast 0 (type_tree 0 1) 2
    (cast_is.Unary (unary_is.Operator unary.Minus 3
    (cast_is.Unary (unary_tree (head_is.Number 4))))))))
    []
unfolding e.IsLor e.nested unary_operator
a_cast =
    let minus_one : e.IsCast (e.nested 1) (punct mark.Minus 3 ∷ number 4 ∷ [])
    (cast_is.Unary (unary_is.Operator unary.Minus 3
    (cast_is.Unary (unary_tree (head_is.Number 4))))) [] =
    e.a_unary (e.an_operator refl (e.a_unary (head_alone
    (e.a_number refl refl)) refl) refl) refl in (
      2,
      e.a_lor _ (from_zero (e.nested 2) _ _ _ (e.an_operand
          (e.a_cast refl (a_type_name 0 1 (punct mark.CloseRound 2 ∷ punct mark.Minus 3 ∷ number 4
          ∷ [])) refl minus_one refl) refl)) refl,
    )

-- .. and a difference where it is the name of an object
a_difference : e.Cond
    (punct mark.OpenRound 0 ∷ name 0 1 ∷ punct mark.CloseRound 2 ∷ punct mark.Minus 3 ∷ number 4
    ∷ [])
    (cond_is.Lor (lor_is.Chain
    (lor_tree (unary_tree (head_is.Brackets 0 (roll-TreeExpr (record {
      first = assign_is.Cond (cond_is.Lor (name_tree 0 1));
      more = [];
    })) 2)))
    (link binary.Subtract 3 (number_tree 4) ∷ [])))
    []
unfolding e.IsLor e.nested binary_operator
a_difference =
    let i = e.nested 1 in
    let inner : e.IsAssign (e.nested 0) (name 0 1 ∷ punct mark.CloseRound 2 ∷ punct mark.Minus 3
    ∷ number 4 ∷ [])
    (assign_is.Cond (cond_is.Lor (name_tree 0 1))) (punct mark.CloseRound 2 ∷ punct mark.Minus 3
    ∷ number 4 ∷ []) =
    e.a_cond (e.a_lor _ (from_zero (e.nested 0) _ _ _ (name_lor (e.nested 0) 0 1 _)) refl) refl in
    let brackets = head_alone {i = i} (e.in_brackets refl
    (e.an_expr inner no_more refl) refl refl) in
    let one : e.IsLor i 1 (number 4 ∷ []) (number_tree 4) [] =
    up i 0 _ _ _ (operand i _ _ _ (head_alone (e.a_number refl refl))) in (
      1,
      e.a_lor _ (from_two i _ _ _ (e.a_chain (up i 0 _ _ _ (operand i _ _ _ brackets))
          (one_more (e.a_link refl refl one refl) no_more) refl)) refl,
    )

-- C11 6.5.3: sizeof (int) * p is a product, whose left side is the size of int
an_int_type : (at : ℕ) → TreeType
an_int_type at = record {
  before = [];
  words = words.Integer (record { keyword = word.Int; at = at } ∷ []) int_type.Int;
  behind = [];
  stars = record { stars = [] };
}

int_words : (at : ℕ) (rest : List Lexeme)
    → t.IsBareWords (key word.Int at ∷ rest)
    (words.Integer (record { keyword = word.Int; at = at } ∷ []) int_type.Int) rest
unfolding type_of_row is_rearranged occurrences
int_words at rest = integer (one_more (a_keyword refl refl) no_more) refl refl

sizeof_times : e.Cond
    (key word.Sizeof 0 ∷ punct mark.OpenRound 1 ∷ key word.Int 2 ∷ punct mark.CloseRound 3
    ∷ punct mark.Star 4 ∷ name 0 5 ∷ [])
    (cond_is.Lor (lor_is.Chain (lor_tree (unary_is.SizeofType 0 1 (an_int_type 2) 3))
    (link binary.Multiply 4 (name_tree 0 5) ∷ [])))
    []
unfolding e.IsLor binary_operator an_int_type storage_count
sizeof_times =
    let i = e.nested 0 in
    let rest : List Lexeme = punct mark.CloseRound 3 ∷ punct mark.Star 4 ∷ name 0 5 ∷ [] in
    let int : IsType (key word.Int 2 ∷ rest) (an_int_type 2) rest =
    a_type no_more (int_words 2 rest) no_more zero-le (some_stars no_more refl) refl in
    let size = operand i (key word.Sizeof 0 ∷ punct mark.OpenRound 1 ∷ key word.Int 2 ∷ rest)
    (punct mark.Star 4 ∷ name 0 5 ∷ []) _ (e.sizeof_type refl refl int refl refl) in (
      0,
      e.a_lor _ (from_two i _ _ _ (up i 1 _ _ _ (e.a_chain size
          (one_more (e.a_link refl refl (name_lor i 0 5 []) refl) no_more) refl))) refl,
    )

-- C11 6.5.15: a ? b : c ? d : e is a ? b : (c ? d : e)
name_cond : ℕ → ℕ → TreeCond
name_cond n at = cond_is.Lor (name_tree n at)

name_expr : ℕ → ℕ → TreeExpr
name_expr n at = roll-TreeExpr (record { first = assign_is.Cond (name_cond n at); more = [] })

a_name_cond : (i : e.Nested) (n at : ℕ) (rest : List Lexeme)
    → e.IsCond i (name n at ∷ rest) (name_cond n at) rest
unfolding name_cond
a_name_cond i n at rest = e.a_lor _ (from_zero i _ _ _ (name_lor i n at rest)) refl

a_name_assign : (i : e.Nested) (n at : ℕ) (rest : List Lexeme)
    → e.IsAssign i (name n at ∷ rest) (assign_is.Cond (name_cond n at)) rest
a_name_assign i n at rest = e.a_cond (a_name_cond i n at rest) refl

choices : e.Cond
    (name 0 0 ∷ punct mark.Question 1 ∷ name 1 2 ∷ punct mark.Colon 3 ∷ name 2 4
    ∷ punct mark.Question 5 ∷ name 3 6 ∷ punct mark.Colon 7 ∷ name 4 8 ∷ [])
    (cond_is.Choice (name_tree 0 0) 1 (name_expr 1 2) 3
    (cond_is.Choice (name_tree 2 4) 5 (name_expr 3 6) 7 (name_cond 4 8)))
    []
unfolding e.nested name_expr
choices =
    let one : (i : e.Nested) (n at : ℕ) (rest : List Lexeme) → e.IsLor i 10 (name n at ∷ rest)
    (name_tree n at) rest =
    λ i n at rest. from_zero i _ _ _ (name_lor i n at rest) in (
      2,
      e.a_choice _ (one (e.nested 2) 0 0 _) refl
          (e.an_expr (a_name_assign (e.nested 1) 1 2 _) no_more refl) refl
          (e.a_choice _ (one (e.nested 1) 2 4 _) refl
          (e.an_expr (a_name_assign (e.nested 0) 3 6 _) no_more refl) refl
          (a_name_cond (e.nested 0) 4 8 []) refl) refl,
    )

-- and the tokens of a - b - c are those that were read
minus_written : cond_written (cond_is.Lor (lor_is.Chain (name_tree 0 0)
    (link binary.Subtract 1 (name_tree 1 2) ∷ link binary.Subtract 3 (name_tree 2 4) ∷ [])))
    ≡ name 0 0 ∷ punct mark.Minus 1 ∷ name 1 2 ∷ punct mark.Minus 3 ∷ name 2 4 ∷ []
unfolding cond_written joined
minus_written = search expr_lemmas
