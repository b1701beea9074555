-- How a reading goes on.
use Rattle.std.proofs.Common.{◌≡◌, ℕ, List, [], ◌∷◌, ◌++◌, Some, None, Option, refl, sym, ap, ◌∙◌, append_assoc, append-nil, subst}
use Rattle.cx_lex.specs.declared.character.Character.{Character}
use Rattle.cx_lex.specs.declared.scan.Scan.{Scan}
use Rattle.cx_lex.specs.Lines.{bytes_of}
use Rattle.cx_lex.specs.Shapes.Scanning.{Scanned, and_before, scanned, step_of}

pub scanned_end : (scan : Scan) → scanned scan [] ≡ record { taken = []; end = scan; rest = [] }
unfolding scanned
scanned_end scan = refl

scanned_by : Scan → Character → List Character → Option Scan → Scanned
scanned_by scan c cs None = record { taken = []; end = scan; rest = c ∷ cs }
scanned_by scan c cs (Some more) = and_before c (scanned more cs)

scanned_is : (scan : Scan) (c : Character) (cs : List Character) (o : Option Scan) → step_of scan c ≡ o → scanned scan (c ∷ cs) ≡ scanned_by scan c cs o
unfolding scanned scanned_by
scanned_is scan c cs o e =
    subst (λ (v : Option Scan). (elim v as (λ _. Scanned) [ None ↦ record { taken = []; end = scan; rest = c ∷ cs } | Some more ↦ and_before c (scanned more cs) ]) ≡ scanned_by scan c cs o) (sym e) (by o)
  where
    by : (o : Option Scan) → (elim o as (λ _. Scanned) [ None ↦ record { taken = []; end = scan; rest = c ∷ cs } | Some more ↦ and_before c (scanned more cs) ]) ≡ scanned_by scan c cs o
    by None = refl
    by (Some more) = refl

pub scanned_stop : (scan : Scan) (c : Character) (cs : List Character) → step_of scan c ≡ None
    → scanned scan (c ∷ cs) ≡ record { taken = []; end = scan; rest = c ∷ cs }
unfolding scanned_by
scanned_stop scan c cs e = scanned_is scan c cs None e

pub scanned_more : (scan : Scan) (c : Character) (cs : List Character) (more : Scan) → step_of scan c ≡ Some more
    → scanned scan (c ∷ cs) ≡ and_before c (scanned more cs)
unfolding scanned_by
scanned_more scan c cs more e = scanned_is scan c cs (Some more) e

-- a reading from a text and characters comes to what one from the start of all comes to
pub record ReadsOn (text : List ℕ) (end : Scan) (cs : List Character) (so_far : List ℕ) (begin : Scan) (all : List Character) : Type 0 where
  pub text_is : text ++ bytes_of (scanned end cs).taken ≡ so_far ++ bytes_of (scanned begin all).taken
  pub end_is : (scanned end cs).end ≡ (scanned begin all).end
  pub rest_is : (scanned end cs).rest ≡ (scanned begin all).rest

pub reads_more : (text : List ℕ) (end : Scan) (c : Character) (cs : List Character) (so_far : List ℕ) (begin : Scan) (all : List Character) (more : Scan)
    → ReadsOn text end (c ∷ cs) so_far begin all → step_of end c ≡ Some more → ReadsOn (text ++ c.code ∷ []) more cs so_far begin all
reads_more text end c cs so_far begin all more r e =
    let s = scanned_more end c cs more e in
    record {
      text_is = append_assoc text (c.code ∷ []) (bytes_of (scanned more cs).taken) ∙ sym (ap (λ (v : Scanned). text ++ bytes_of v.taken) s) ∙ r.text_is;
      end_is = sym (ap (λ (v : Scanned). v.end) s) ∙ r.end_is;
      rest_is = sym (ap (λ (v : Scanned). v.rest) s) ∙ r.rest_is;
    }

-- what a reading has come to
pub record HasRead (text : List ℕ) (end : Scan) (cs : List Character) (so_far : List ℕ) (begin : Scan) (all : List Character) : Type 0 where
  pub text_is : text ≡ so_far ++ bytes_of (scanned begin all).taken
  pub end_is : end ≡ (scanned begin all).end
  pub rest_is : cs ≡ (scanned begin all).rest

has_read : (text : List ℕ) (end : Scan) (cs : List Character) (so_far : List ℕ) (begin : Scan) (all : List Character)
    → scanned end cs ≡ record { taken = []; end = end; rest = cs } → ReadsOn text end cs so_far begin all → HasRead text end cs so_far begin all
has_read text end cs so_far begin all s r = record {
  text_is = sym (append-nil text) ∙ sym (ap (λ (v : Scanned). text ++ bytes_of v.taken) s) ∙ r.text_is;
  end_is = sym (ap (λ (v : Scanned). v.end) s) ∙ r.end_is;
  rest_is = sym (ap (λ (v : Scanned). v.rest) s) ∙ r.rest_is;
}

pub reads_end : (text : List ℕ) (end : Scan) (so_far : List ℕ) (begin : Scan) (all : List Character)
    → ReadsOn text end [] so_far begin all → HasRead text end [] so_far begin all
reads_end text end so_far begin all r = has_read text end [] so_far begin all (scanned_end end) r

pub reads_stop : (text : List ℕ) (end : Scan) (c : Character) (cs : List Character) (so_far : List ℕ) (begin : Scan) (all : List Character)
    → ReadsOn text end (c ∷ cs) so_far begin all → step_of end c ≡ None → HasRead text end (c ∷ cs) so_far begin all
reads_stop text end c cs so_far begin all r e = has_read text end (c ∷ cs) so_far begin all (scanned_stop end c cs e) r
