-- Each first text has an end, and something is found there.
use Rattle.std.proofs.Common.{◌≡◌, ℕ, zero, suc, ◌+◌, ◌≤◌, ℤ, List, [], ◌∷◌, length, Option, Some, None, IsSome, option_and_then, option_map, slice_get, slice_set, refl, sym, ◌∙◌, ap, subst, arith, true≢false, ⊎_elim}
use Rattle.std.proofs.lemmas.Option.{slice_get_cases}
use Rattle.cx_base.specs.declared.finding.Finding.{Finding}
use Rattle.cx_first.specs.declared.evaluation.Undefined.{Undefined}
use Rattle.cx_first.specs.declared.evaluation.End.{End}
use Rattle.cx_first.specs.declared.evaluation.End.TheVariants as at_end
use Rattle.cx_first.specs.declared.nodes.Node.{Node}
use Rattle.cx_first.specs.declared.runs.RunEnd.{RunEnd}
use Rattle.cx_first.specs.declared.runs.RunEnd.TheVariants.{Finished, Stuck}
use Rattle.cx_first.specs.Evaluation.{Memory, made}
use Rattle.cx_first.specs.Nodes.{node_of}
use Rattle.cx_first.specs.Runs.{Ends, EndsIn, IsStuck, Pair, Reaches, after, evaluates, start, stored, value_in, value_of}
use Rattle.cx_first.specs.Tree.{Form, Source, Tree, assigns, declares, returns}
use Rattle.cx_first.proofs.NodeLaws.{stuck_node}
use Rattle.cx_first.proofs.RunLaws.{ends_in, no_step, reaches_on, reaches_start}
use Rattle.cx_unit.specs.First.{Finds, FindsBy, finding_of}

module _ (text : Source) where
  abbrev Ended : Type 0
  Ended = (end : RunEnd) × Ends text end

  finishes : (n : ℕ) (m : Memory) → Reaches text (n, m) → n ≡ length text.statements → Ended
  finishes n m r e =
      (Finished, (m, subst (λ k. EndsIn text (k, m)) e (ends_in text (n, m) r (no_step text (n, m) (omega (arith, e))))))

  module _ (n : ℕ) (m : Memory) (form : Form) (r : Reaches text (n, m)) (here : slice_get text.statements n ≡ Some form) where
    leads : (later : Pair) → after (length text.statements) (n, m) form ≡ Some later → Reaches text later
    leads later e = reaches_on text (n, m) later r (ap (option_and_then (after (length text.statements) (n, m))) here ∙ e)

    -- a statement with an expression: the run goes on where it has a value, and is stuck where it has none
    by_value : (tree : Tree) (to : ℤ → Pair) → evaluates form ≡ Some tree
        → after (length text.statements) (n, m) form ≡ option_map to (value_in m tree)
        → ((v : ℤ) → Reaches text (to v) → Ended) → (end : End) → (made tree m).end ≡ end → Ended
    by_value tree to e a next (at_end.Value v) i = next v (leads (to v) (a ∙ ap (λ x. option_map to (value_of x)) i))
    by_value tree to e a next (at_end.Undefined cause) i = (
      Stuck n (length (made tree m).values) cause,
      record {
        memory = m;
        ends = ends_in text (n, m) r (ap (option_and_then (after (length text.statements) (n, m))) here ∙ (a ∙ ap (λ x. option_map to (value_of x)) i));
        tree = tree;
        evaluates = ap (option_and_then evaluates) here ∙ e;
        stops = record { stopped = refl; undefined = i };
      },
    )

  by_form : (n : ℕ) (m : Memory) (form : Form) → Reaches text (n, m) → slice_get text.statements n ≡ Some form
      → ((memory : Memory) → Reaches text (n + 1, memory) → Ended) → Ended
  by_form n m (declares index at None) r here next = next m (leads n m (declares index at None) r here (n + 1, m) refl)
  by_form n m (declares index at (Some tree)) r here next =
      by_value n m (declares index at (Some tree)) r here tree (stored (n, m) index) refl refl
      (λ v s. next (slice_set m index (Some v)) s) (made tree m).end refl
  by_form n m (assigns index at tree) r here next =
      by_value n m (assigns index at tree) r here tree (stored (n, m) index) refl refl
      (λ v s. next (slice_set m index (Some v)) s) (made tree m).end refl
  by_form n m (returns at tree) r here next =
      by_value n m (returns at tree) r here tree (λ v. (length text.statements, m)) refl refl
      (λ v s. finishes (length text.statements) m s refl) (made tree m).end refl

  -- each statement leads nearer to the end
  ended_from : (k n : ℕ) (m : Memory) → Reaches text (n, m) → n ≤ length text.statements → length text.statements ≤ n + k → Ended
  ended_from zero n m r low high = finishes n m r (omega (arith, low, high))
  ended_from (suc k) n m r low high =
      ⊎_elim
      (λ there. by_form n m there.0 r there.2 (λ memory s. ended_from k (n + 1) memory s (omega (arith, there.1)) (omega (arith, high))))
      (λ past. finishes n m r (omega (arith, low, past.0)))
      (slice_get_cases text.statements n).1

  pub some_end : (end : RunEnd) × Ends text end
  some_end = ended_from (length text.statements) 0 (start text).1 (reaches_start text) (omega arith) (omega arith)

module _ (source : Source) where
  found_by : (statement node : ℕ) (cause : Undefined) → IsStuck source statement node cause → (told : Option Node)
      → node_of source statement node ≡ told → IsSome told → (found : List Finding) × FindsBy source (Stuck statement node cause) found
  found_by statement node cause stuck None e some = absurd (true≢false (sym some))
  found_by statement node cause stuck (Some told) e some =
      (finding_of cause told ∷ [], (finding_of cause told, record { cause = cause; stuck = stuck; told = told; stands = e; is = refl }, refl))

  found_at : (end : RunEnd) → Ends source end → (found : List Finding) × FindsBy source end found
  found_at Finished e = ([], refl)
  found_at (Stuck statement node cause) e =
      found_by statement node cause e (node_of source statement node) refl (stuck_node source statement node cause e)

  pub some_found : (found : List Finding) × Finds source found
  some_found = let end = some_end source in let f = found_at end.0 end.1 in (f.0, (end.0, end.1, f.1))
