-- Chains of operators: their readers read what the rules do.
use Rattle.std.proofs.Common.{◌≡◌, refl, sym, subst, ◌∙◌, ℕ, zero, suc, ◌<◌, ◌==◌, Bool, true, false, List, [], ◌∷◌, length, Option, Some, None, arith}
use Rattle.std.proofs.lemmas.Bool.Decides.{nat_tests}
use Rattle.cx_syntax_tree.specs.declared.terminals.Lexeme.{Lexeme}
use Rattle.cx_syntax_tree.specs.declared.expressions.BinaryOperator.{BinaryOperator}
use Rattle.cx_syntax_tree.specs.declared.expressions.AssignOperator.{AssignOperator}
use Rattle.cx_syntax_tree.specs.declared.expressions.TreeLor.{TreeLor}
use Rattle.cx_syntax_tree.specs.declared.expressions.TreeLink.{TreeLink, roll-TreeLink}
use Rattle.cx_reading.specs.Rules.{Relation}
use Rattle.cx_reading.specs.Parsing.{Parser, and_then, pure, front, take, ◌>>=◌, many_from, many}
use Rattle.cx_reading.specs.Agreement.{Items}
use Rattle.cx_reading.proofs.TokenLaws.{some_same, bound, moved, take_some}
use Rattle.cx_reading.proofs.RowLaws.{many_sound, many_complete, many_good, many_no_longer}
use Rattle.cx_expressions.specs.Operators.{level_of}
use Rattle.cx_expressions.specs.Expressions.{Nested, IsLink, a_link, chained, IsChain, a_chain, IsLor}
use Rattle.cx_expressions.specs.declared.roles.Behind.{Behind}
use Rattle.cx_expressions.specs.declared.roles.Behind.TheVariants as behind_is
use Rattle.cx_expressions.specs.Shapes.Roles.{follows, binds_of, Stops, Operand}
use Rattle.cx_expressions.specs.Shapes.Parsers.{Next, link_if, link_by, link, operand, lor_from, lor}
use Rattle.cx_expressions.proofs.RoleLaws.{binary_behind, behind_binary_of, follows_at}
use Rattle.cx_expressions.proofs.InnerLaws.{Rule, InnerLaws}
use Rattle.cx_expressions.proofs.OperandLaws.{operand_law}

equal_numbers : (m n : ℕ) → (m == n) ≡ true → m ≡ n
equal_numbers m n e = grind (arith, nat_tests)

equals : (m n : ℕ) → m ≡ n → (m == n) ≡ true
equals m n e = grind (arith, nat_tests)

differs : (m n : ℕ) → n < m → (m == n) ≡ false
differs m n h = grind (arith, nat_tests)

pub many_none : {A : Type 0} (p : Parser (Option A)) (ts : List Lexeme) → p ts ≡ Some (None, ts)
    → many p ts ≡ Some ([], ts)
unfolding many many_from
many_none p [] e = refl
many_none p (q ∷ ts) e = rw e refl

-- ---- a link, over any operands

module _ (below : ℕ) {p : Parser TreeLor} {R : Relation TreeLor} (law : Rule below p R) where
  link_if_sound : (b : Bool) (op : BinaryOperator) (ts : List Lexeme) (x : TreeLink)
      (rest : List Lexeme) → follows ts ≡ behind_is.Binary op → (level_of op == suc below) ≡ b
      → link_if b op p ts ≡ Some (Some x, rest) → IsLink R (suc below) ts x rest
  link_if_sound true op ts x rest f level e =
      let a = bound (take ts) (λ q. λ us. and_then (p us) (λ y.
      pure (Some (roll-TreeLink (record { operator = op; at = q.at; operand = y }))))) (Some x)
      rest e in
      let whole = take_some ts a.made a.mid a.first in
      let c = bound (p a.mid) (λ y.
      pure (Some (roll-TreeLink (record { operator = op; at = a.made.at; operand = y })))) (Some x)
      rest a.second in
      let same = some_same {A = Option TreeLink}
      (Some (roll-TreeLink (record { operator = op; at = a.made.at; operand = c.made }))) (Some x)
      c.mid rest c.second in
      let is = behind_binary_of a.made.terminal op (follows_at ts a.made a.mid _ whole f) in
      let tree : roll-TreeLink (record { operator = op; at = a.made.at; operand = c.made }) ≡ x =
      cc (same.0) in
      subst (λ us. IsLink R (suc below) us x rest) (sym whole)
      (moved (IsLink R (suc below)) (a_link is (equal_numbers (level_of op) (suc below) level)
      (law.sound a.mid c.made c.mid c.first) refl) tree same.1)
  link_if_sound false op ts x rest f level e =
      let same = some_same {A = Option TreeLink} None (Some x) ts rest e in absurd cc

  link_sound_by : (b : Behind) (ts : List Lexeme) (x : TreeLink) (rest : List Lexeme)
      → follows ts ≡ b → link_by (suc below) p b ts ≡ Some (Some x, rest)
      → IsLink R (suc below) ts x rest
  link_sound_by (behind_is.Binary op) ts x rest f e =
      link_if_sound (level_of op == suc below) op ts x rest f refl e
  link_sound_by _ ts x rest f e =
      let same = some_same {A = Option TreeLink} None (Some x) ts rest e in absurd cc

  link_sound : (ts : List Lexeme) (x : TreeLink) (rest : List Lexeme)
      → link (suc below) p ts ≡ Some (Some x, rest) → IsLink R (suc below) ts x rest
  unfolding link
  link_sound ts x rest e = link_sound_by (follows ts) ts x rest refl e

  link_if_absent : (b : Bool) (op : BinaryOperator) (ts rest : List Lexeme)
      → link_if b op p ts ≡ Some (None, rest) → rest ≡ ts
  link_if_absent true op ts rest e =
      let a = bound (take ts) (λ q. λ us. and_then (p us) (λ y.
      pure (Some (roll-TreeLink (record { operator = op; at = q.at; operand = y }))))) None
      rest e in
      let c = bound (p a.mid) (λ y.
      pure (Some (roll-TreeLink (record { operator = op; at = a.made.at; operand = y })))) None
      rest a.second in
      let same = some_same {A = Option TreeLink}
      (Some (roll-TreeLink (record { operator = op; at = a.made.at; operand = c.made }))) None
      c.mid rest c.second in
      absurd cc
  link_if_absent false op ts rest e = sym (some_same {A = Option TreeLink} None None ts rest e).1

  link_absent_by : (b : Behind) (ts rest : List Lexeme)
      → link_by (suc below) p b ts ≡ Some (None, rest) → rest ≡ ts
  link_absent_by (behind_is.Binary op) ts rest e =
      link_if_absent (level_of op == suc below) op ts rest e
  link_absent_by _ ts rest e = sym (some_same {A = Option TreeLink} None None ts rest e).1

  link_absent : (ts rest : List Lexeme) → link (suc below) p ts ≡ Some (None, rest) → rest ≡ ts
  unfolding link
  link_absent ts rest e = link_absent_by (follows ts) ts rest e

  link_complete : (ts : List Lexeme) (x : TreeLink) (rest : List Lexeme)
      → IsLink R (suc below) ts x rest → Stops below rest → link (suc below) p ts ≡ Some (Some x, rest)
  unfolding link follows front
  link_complete _ x rest (a_link {p = q} {ts = ts} {op = op} {x = y} is level r e) g =
      rw (
        binary_behind q.terminal op is,
        equals (level_of op) (suc below) level,
        law.complete ts y rest r g,
        e,
      ) refl

  link_shorter : (ts : List Lexeme) (x : TreeLink) (rest : List Lexeme)
      → IsLink R (suc below) ts x rest → length rest < length ts
  link_shorter _ x rest (a_link {ts = ts} {x = y} is level r e) =
      let s = law.shorter ts y rest r in omega arith

  link_begins : (ts : List Lexeme) (x : TreeLink) (rest : List Lexeme)
      → IsLink R (suc below) ts x rest → Stops below ts
  unfolding follows front
  link_begins _ x rest (a_link {p = q} {op = op} is level r e) =
      rw (binary_behind q.terminal op is) (omega (arith, level))

  link_row : Items (Stops below) (link (suc below) p) (IsLink R (suc below))
  link_row = record {
    sound = link_sound;
    complete = link_complete;
    shorter = link_shorter;
    begins = link_begins;
    absent = link_absent;
  }

  no_link_by : (b : Behind) → suc below < binds_of b → (ts : List Lexeme)
      → link_by (suc below) p b ts ≡ Some (None, ts)
  no_link_by (behind_is.Binary op) h ts = rw (differs (level_of op) (suc below) h) refl
  no_link_by _ h ts = refl

  no_link : (ts : List Lexeme) → Stops (suc below) ts → link (suc below) p ts ≡ Some (None, ts)
  unfolding link
  no_link ts s = no_link_by (follows ts) s ts

-- ---- chains

module _ {next : Next} {inner : Nested} (l : InnerLaws next inner) where
  abbrev linked : ℕ → TreeLor → Parser TreeLor
  linked below f = λ ts. and_then (many (link (suc below) (lor next below)) ts)
      (λ found. pure (chained f found))

  lor_step : (below : ℕ) (o : Option (TreeLor × List Lexeme))
      → and_then o (lor_from next (suc below)) ≡ and_then (and_then o (lor_from next below)) (linked below)
  unfolding lor lor_from
  lor_step below None = refl
  lor_step below (Some read) = refl

  regroup : (below : ℕ) (ts : List Lexeme)
      → lor next (suc below) ts ≡ and_then (lor next below ts) (linked below)
  unfolding lor
  regroup below ts = lor_step below (operand next ts)

  pure_last : (o : Option (TreeLor × List Lexeme)) → and_then o (lor_from next 0) ≡ o
  unfolding lor_from
  pure_last None = refl
  pure_last (Some read) = refl

  lor_zero : (ts : List Lexeme) → lor next 0 ts ≡ operand next ts
  unfolding lor
  lor_zero ts = pure_last (operand next ts)

  zero_law : Rule 0 (lor next 0) (IsLor inner 0)
  unfolding IsLor
  zero_law = record {
    sound = λ ts x rest e. (operand_law l).sound ts x rest (sym (lor_zero ts) ∙ e);
    complete = λ ts x rest r g. lor_zero ts ∙ (operand_law l).complete ts x rest r g;
    shorter = λ ts x rest r. (operand_law l).shorter ts x rest r;
    begins = λ ts x rest r. (operand_law l).begins ts x rest r;
  }

  module _ (below : ℕ) (law : Rule below (lor next below) (IsLor inner below)) where
    chain_sound : (ts : List Lexeme) (x : TreeLor) (rest : List Lexeme)
        → lor next (suc below) ts ≡ Some (x, rest)
        → IsChain (IsLor inner below) (suc below) ts x rest
    chain_sound ts x rest e =
        let a = bound (lor next below ts) (linked below) x rest (sym (regroup below ts) ∙ e) in
        let b = bound (many (link (suc below) (lor next below)) a.mid)
        (λ found. pure (chained a.made found)) x rest a.second in
        let same = some_same (chained a.made b.made) x b.mid rest b.second in
        moved (IsChain (IsLor inner below) (suc below))
        (a_chain (law.sound ts a.made a.mid a.first)
        (many_sound (link_row below law) a.mid b.made b.mid b.first) refl) same.0 same.1

    chain_complete : (ts : List Lexeme) (x : TreeLor) (rest : List Lexeme)
        → IsChain (IsLor inner below) (suc below) ts x rest → Stops (suc below) rest
        → lor next (suc below) ts ≡ Some (x, rest)
    chain_complete ts x rest (a_chain {mid = mid} {first = first} {links = links} f m e) g =
        let weak : Stops below rest = omega (arith, g) in
        regroup below ts ∙ rw (
          law.complete ts first mid f (many_good (link_row below law) m weak),
          many_complete (link_row below law) mid links rest m weak (no_link below law rest g),
          e,
        ) refl

    chain_shorter : (ts : List Lexeme) (x : TreeLor) (rest : List Lexeme)
        → IsChain (IsLor inner below) (suc below) ts x rest → length rest < length ts
    chain_shorter ts x rest (a_chain {mid = mid} {first = first} f m e) =
        let a = law.shorter ts first mid f in
        let b = many_no_longer (link_row below law) m in omega arith

    chain_begins : (ts : List Lexeme) (x : TreeLor) (rest : List Lexeme)
        → IsChain (IsLor inner below) (suc below) ts x rest → Operand ts
    chain_begins ts x rest (a_chain {mid = mid} {first = first} f m e) =
        law.begins ts first mid f

    chain_law : Rule (suc below) (lor next (suc below)) (IsLor inner (suc below))
    unfolding IsLor
    chain_law = record {
      sound = chain_sound;
      complete = chain_complete;
      shorter = chain_shorter;
      begins = chain_begins;
    }

  pub lor_law : (n : ℕ) → Rule n (lor next n) (IsLor inner n)
  lor_law zero = zero_law
  lor_law (suc below) = chain_law below (lor_law below)

  -- an assignment operator goes on with no chain
  pub lor_stays : (n : ℕ) (first : TreeLor) (ts : List Lexeme) (op : AssignOperator)
      → follows ts ≡ behind_is.Assign op → lor_from next n first ts ≡ Some (first, ts)
  unfolding lor_from link
  lor_stays zero first ts op f = refl
  lor_stays (suc below) first ts op f =
      let none : link (suc below) (operand next >>= lor_from next below) ts ≡ Some (None, ts) =
      rw f refl in
      rw (
        lor_stays below first ts op f,
        many_none (link (suc below) (operand next >>= lor_from next below)) ts none,
      ) refl
