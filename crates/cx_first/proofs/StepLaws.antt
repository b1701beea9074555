-- What a statement of the code's text is as a statement of its source, and where it leads.
use Rattle.std.proofs.Common.{◌≡◌, ℕ, ◌+◌, ◌<◌, ◌≤◌, length, get_or, map, Option, Some, None, option_map, slice_get, refl, sym, ◌∙◌, ap, subst, arith}
use Rattle.std.proofs.lemmas.List.{length-map}
use Rattle.std.proofs.Math.ListN.{get_or-map}
use Rattle.std.proofs.lemmas.Option.{slice_get-map, slice_get_read}
use Rattle.cx_first.specs.declared.evaluation.Undefined.{Undefined}
use Rattle.cx_first.specs.declared.tree.Statement.{Statement}
use Rattle.cx_first.specs.declared.tree.FirstText.{FirstText}
use Rattle.cx_first.specs.declared.runs.RunEnd.TheVariants.{Finished, Stuck}
use Rattle.cx_first.specs.Tree.{Tree, Form, declares, assigns, returns, form_of, source_of}
use Rattle.cx_first.specs.Evaluation.{Memory}
use Rattle.cx_first.specs.Runs.{Pair, value_in, after, next, Reaches, evaluates, StopsAt, Ends, IsNumbered, IsSmallForm}
use Rattle.cx_first.specs.Steps.{IsNowhere}
use Rattle.cx_first.proofs.RunLaws.{reaches_on, ends_in, no_step}

form_at : (text : FirstText) (i : ℕ) (x : Statement) → i < length text.statements → x ≡ get_or text.statements i x
    → slice_get (source_of text).statements i ≡ Some (form_of x)
form_at text i x h e =
    slice_get-map form_of text.statements i ∙ ap (option_map form_of) (slice_get_read text.statements (length text.statements) i x refl h e)

pub small_at : (text : FirstText) (i : ℕ) (x : Statement) → i < length text.statements → x ≡ get_or text.statements i x
    → IsNumbered (source_of text) → IsSmallForm (form_of x)
small_at text i x h e n =
    let small = n.sizes i (form_of x) (omega (arith, length-map text.statements form_of)) in
    let same : get_or (map form_of text.statements) i (form_of x) ≡ form_of x = get_or-map form_of text.statements i x ∙ ap form_of (sym e) in
    subst IsSmallForm same small

next_at : (text : FirstText) (i : ℕ) (m : Memory) (x : Statement) (r : Option Pair) → i < length text.statements
    → x ≡ get_or text.statements i x → after (length (source_of text).statements) (i, m) (form_of x) ≡ r → next (source_of text) (i, m) ≡ r
next_at text i m x r h e a = rw (form_at text i x h e) a

pub goes_behind : (text : FirstText) (i : ℕ) (m new : Memory) (x : Statement) → i < length text.statements
    → x ≡ get_or text.statements i x → Reaches (source_of text) (i, m)
    → ((count number : ℕ) → after count (number, m) (form_of x) ≡ Some (number + 1, new)) → Reaches (source_of text) (i + 1, new)
goes_behind text i m new x h e r s =
    reaches_on (source_of text) (i, m) (i + 1, new) r (next_at text i m x (Some (i + 1, new)) h e (s (length (source_of text).statements) i))

pub goes_out : (text : FirstText) (i : ℕ) (m : Memory) (x : Statement) → i < length text.statements
    → x ≡ get_or text.statements i x → Reaches (source_of text) (i, m)
    → ((count number : ℕ) → after count (number, m) (form_of x) ≡ Some (count, m)) → Ends (source_of text) Finished
goes_out text i m x h e r s =
    let n : ℕ = length (source_of text).statements in (
      m,
      ends_in (source_of text) (n, m)
          (reaches_on (source_of text) (i, m) (n, m) r (next_at text i m x (Some (n, m)) h e (s n i)))
          (no_step (source_of text) (n, m) (omega arith)),
    )

pub comes_out : (text : FirstText) (i : ℕ) (m : Memory) → length text.statements ≤ i → i ≤ length text.statements
    → Reaches (source_of text) (i, m) → Ends (source_of text) Finished
comes_out text i m h k r =
    let n : ℕ = length (source_of text).statements in
    let same : i ≡ n = omega (arith, length-map text.statements form_of) in
    (m, ends_in (source_of text) (n, m) (subst (λ j. Reaches (source_of text) (j, m)) same r) (no_step (source_of text) (n, m) (omega arith)))

no_value : (tree : Tree) (m : Memory) (node : ℕ) (cause : Undefined) → StopsAt tree m node cause → value_in m tree ≡ None
no_value tree m node cause s = rw (s.undefined) refl

nowhere_none : (count i : ℕ) (form : Form) (m : Memory) (node : ℕ) (cause : Undefined) → IsNowhere form m node cause
    → after count (i, m) form ≡ None
nowhere_none count i (declares index at None) m node cause n = absurd (let e : evaluates (declares index at None) ≡ Some n.tree = n.evaluates in cc)
nowhere_none count i (declares index at (Some value)) m node cause n =
    let e : Some value ≡ Some n.tree = n.evaluates in
    let same : value ≡ n.tree = cc in rw (same, no_value n.tree m node cause n.stops) refl
nowhere_none count i (assigns index at value) m node cause n =
    let e : Some value ≡ Some n.tree = n.evaluates in
    let same : value ≡ n.tree = cc in rw (same, no_value n.tree m node cause n.stops) refl
nowhere_none count i (returns at value) m node cause n =
    let e : Some value ≡ Some n.tree = n.evaluates in
    let same : value ≡ n.tree = cc in rw (same, no_value n.tree m node cause n.stops) refl

pub goes_nowhere : (text : FirstText) (i : ℕ) (m : Memory) (x : Statement) (node : ℕ) (cause : Undefined) → i < length text.statements
    → x ≡ get_or text.statements i x → Reaches (source_of text) (i, m)
    → IsNowhere (form_of x) m node cause → Ends (source_of text) (Stuck i node cause)
goes_nowhere text i m x node cause h e r n = record {
  memory = m;
  ends = ends_in (source_of text) (i, m) r (next_at text i m x None h e (nowhere_none (length (source_of text).statements) i (form_of x) m node cause n));
  tree = n.tree;
  evaluates = rw (form_at text i x h e) n.evaluates;
  stops = n.stops;
}
