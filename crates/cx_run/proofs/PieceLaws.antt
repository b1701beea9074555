-- The pieces of units, one unit after another.
use Rattle.std.proofs.Common.{◌≡◌, ℕ, ◌+◌, ◌<◌, ◌≤◌, Bool, true, false, cond, List, [], ◌∷◌, ◌++◌, append_assoc, append-nil, arith, drop, get_or, length, length-append, refl, sym, ap, ◌∙◌}
use Rattle.std.specs.List.{flat_map, list_any}
use Rattle.std.proofs.lemmas.List.{drop_all, drop_more}
use Rattle.indexmap.specs.IndexSet.{insert_all, insert_key}
use Rattle.cx_base.specs.declared.finding.Finding.{Finding}
use Rattle.cx_options.specs.declared.answer.Options.{Options}
use Rattle.cx_finding.specs.Distinct.{same}
use Rattle.cx_unit.specs.declared.report.UnitReport.{UnitReport}
use Rattle.cx_run.specs.declared.report.ReportPiece.{ReportPiece}
use Rattle.cx_run.specs.Findings.{new_findings, with_findings}
use Rattle.cx_run.specs.Reports.{all_findings, finding_pieces, progress_pieces, unit_pieces}

inserted_both : {T : Type 0} (eq : T → T → Bool) (keys xs ys : List T) → insert_all eq (insert_all eq keys xs) ys ≡ insert_all eq keys (xs ++ ys)
inserted_both eq keys [] ys = refl
inserted_both eq keys (x ∷ xs) ys = inserted_both eq (insert_key eq keys x) xs ys

grows_by_one : {T : Type 0} (eq : T → T → Bool) (keys : List T) (x : T) → length keys ≤ length (insert_key eq keys x)
grows_by_one eq keys x = by (list_any (eq x) keys)
  where
    by : (b : Bool) → length keys ≤ length (cond b keys (keys ++ x ∷ []))
    by true = omega arith
    by false = let count = length-append keys (x ∷ []) in omega (arith, count)

grows : {T : Type 0} (eq : T → T → Bool) (keys xs : List T) → length keys ≤ length (insert_all eq keys xs)
grows eq keys [] = omega arith
grows eq keys (x ∷ xs) = let one = grows_by_one eq keys x in let rest = grows eq (insert_key eq keys x) xs in omega (arith, one, rest)

-- no finding is lost
pub told_grows : (told findings : List Finding) → length told ≤ length (with_findings told findings)
told_grows told findings = grows same told findings

module _ (options : Options) (files : List (List ℕ)) (told : List Finding) (units : List UnitReport) (n : ℕ) where
  module _ (unit : UnitReport) (below : n < length units) (at : unit ≡ get_or units n unit) where
    here : drop n units ≡ unit ∷ drop (n + 1) units
    here = drop_more units n unit below ∙ ap (λ u. u ∷ drop (n + 1) units) (sym at)

    one_step : unit_pieces options files told (drop n units)
        ≡ progress_pieces options unit ++ finding_pieces options files (new_findings told unit.findings)
        ++ unit_pieces options files (with_findings told unit.findings) (drop (n + 1) units)
    unfolding unit_pieces
    one_step = ap (unit_pieces options files told) here

    -- the pieces of one more unit
    pub pieces_next : (before with_progress after all : List ReportPiece) (now : List Finding)
        → before ++ unit_pieces options files told (drop n units) ≡ all
        → with_progress ≡ before ++ progress_pieces options unit
        → now ≡ with_findings told unit.findings
        → after ≡ with_progress ++ finding_pieces options files (drop (length told) now)
        → after ++ unit_pieces options files now (drop (n + 1) units) ≡ all
    pieces_next before with_progress after all now so_far p t f =
        let progress = progress_pieces options unit in
        let found = finding_pieces options files (new_findings told unit.findings) in
        let rest = unit_pieces options files (with_findings told unit.findings) (drop (n + 1) units) in
        ap (λ l. l ++ unit_pieces options files now (drop (n + 1) units)) (f ∙ ap (λ l. l ++ finding_pieces options files (drop (length told) now)) p)
        ∙ ap (λ w. ((before ++ progress) ++ finding_pieces options files (drop (length told) w)) ++ unit_pieces options files w (drop (n + 1) units)) t
        ∙ ap (λ l. l ++ rest) (append_assoc before progress found)
        ∙ append_assoc before (progress ++ found) rest
        ∙ ap (λ l. before ++ l) (sym one_step)
        ∙ so_far

    -- the findings of one more unit
    pub told_next : (now all : List Finding) → all_findings told (drop n units) ≡ all → now ≡ with_findings told unit.findings
        → all_findings now (drop (n + 1) units) ≡ all
    told_next now all so_far t =
        ap (λ w. all_findings w (drop (n + 1) units)) t
        ∙ inserted_both same told unit.findings (flat_map (λ unit. unit.findings) (drop (n + 1) units))
        ∙ ap (all_findings told) (sym here) ∙ so_far

  pub pieces_end : (before all : List ReportPiece) → length units ≤ n → before ++ unit_pieces options files told (drop n units) ≡ all → before ≡ all
  unfolding unit_pieces
  pieces_end before all past so_far =
      sym (append-nil before) ∙ ap (λ us. before ++ unit_pieces options files told us) (sym (drop_all n units past)) ∙ so_far

  pub told_end : (all : List Finding) → length units ≤ n → all_findings told (drop n units) ≡ all → told ≡ all
  told_end all past so_far = ap (all_findings told) (sym (drop_all n units past)) ∙ so_far
