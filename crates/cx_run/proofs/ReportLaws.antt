-- The words and what was seen have at most one report.
use Rattle.std.proofs.Common.{◌≡◌, ℕ, zero, suc, ◌<◌, List, [], ◌∷◌, Option, Some, None, Result, Ok, Err, get_or, length, refl, sym, ap, subst, ◌∙◌, arith}
use Rattle.std.specs.List.{AllZip}
use Rattle.cx_base.specs.declared.answers.SeenEntry.{SeenEntry}
use Rattle.cx_options.specs.declared.answer.Options.{Options}
use Rattle.cx_options.specs.declared.fault.WordKind.{WordKind}
use Rattle.cx_options.specs.Command.{Refused, command}
use Rattle.cx_options.specs.Texts.{refusal_text}
use Rattle.cx_asking.specs.declared.list_fault.ListFault.{ListFault}
use Rattle.cx_unit.specs.declared.report.UnitReport.{UnitReport}
use Rattle.cx_unit.specs.Units.{Ground, IsForeignUnit, IsUnitReport}
use Rattle.cx_run.specs.declared.limits.RunLimits.{RunLimits}
use Rattle.cx_run.specs.declared.report.Cause.TheVariants.{BadWords}
use Rattle.cx_run.specs.declared.report.Report.{Report}
use Rattle.cx_run.specs.Reports.{IsChecked, IsForeignAmong, IsGround, IsOptionsReport, IsReport, WordAt, checked_units, done_report, first_findings, is_bad_word, is_checked, is_done, is_empty, is_foreign, is_read, is_refused_list, list_report, paths_of, refusal_report}
use Rattle.cx_run.proofs.GroundLaws.{ground_same}

-- what laws say of units
abbrev pub OneUnitReport : Type 0
OneUnitReport = (g : Ground) (path : List ℕ) (one other : UnitReport) → IsUnitReport g path one → IsUnitReport g path other → one ≡ other

abbrev pub NotBoth : Type 0
NotBoth = (g : Ground) (path : List ℕ) (report : UnitReport) → IsForeignUnit g path → IsUnitReport g path report → ⊥

zip_same : {A B : Type 0} (R : A → B → Type 0) → ((x : A) (y z : B) → R x y → R x z → y ≡ z)
    → (xs : List A) (ys zs : List B) → AllZip R xs ys → AllZip R xs zs → ys ≡ zs
zip_same R one [] [] [] a b = refl
zip_same R one [] [] (z ∷ zs) a b = absurd b
zip_same R one [] (y ∷ ys) zs a b = absurd a
zip_same R one (x ∷ xs) [] zs a b = absurd a
zip_same R one (x ∷ xs) (y ∷ ys) [] a b = absurd b
zip_same R one (x ∷ xs) (y ∷ ys) (z ∷ zs) a b =
    let first = one x y z a.0 b.0 in
    let rest = zip_same R one xs ys zs a.1 b.1 in
    cc

zip_at : {A B : Type 0} (R : A → B → Type 0) (xs : List A) (ys : List B) (n : ℕ) (x : A) → AllZip R xs ys → n < length xs → get_or xs n x ≡ x
    → (y : B) × R x y
zip_at R [] ys n x all below at = absurd (omega (arith, below))
zip_at R (a ∷ xs) [] n x all below at = absurd all
zip_at R (a ∷ xs) (b ∷ ys) zero x all below at = (b, subst (λ z. R z b) at all.0)
zip_at R (a ∷ xs) (b ∷ ys) (suc n) x all below at = zip_at R xs ys n x all.1 (omega (arith, below)) at

module _ (one_unit : OneUnitReport) (not_both : NotBoth) where
  apart : (g : Ground) (paths : List (List ℕ)) (units : List UnitReport) → IsForeignAmong g paths → AllZip (IsUnitReport g) paths units → ⊥
  apart g paths units f all =
      let unit = zip_at (IsUnitReport g) paths units f.1.0 f.0 all f.1.1 f.1.2 in
      not_both g f.0 unit.0 f.2 unit.1

  module _ (limits : RunLimits) (options : Options) (seen : List SeenEntry) where
    foreign_or_done : (g h : Ground) (units : List UnitReport) → IsGround limits options seen g → IsGround limits options seen h
        → IsForeignAmong g (checked_units limits options seen) → AllZip (IsUnitReport h) (checked_units limits options seen) units → ⊥
    foreign_or_done g h units s t f all =
        apart g (checked_units limits options seen) units f
        (subst (λ k. AllZip (IsUnitReport k) (checked_units limits options seen) units) (ground_same limits options seen h g t s) all)

    checked_same : (one other : Report) → IsChecked limits options seen one → IsChecked limits options seen other → one ≡ other
    checked_same _ _ (is_foreign g s f) (is_foreign h t k) = refl
    checked_same _ _ (is_foreign g s f) (is_done h units t all) = absurd (foreign_or_done g h units s t f all)
    checked_same _ _ (is_done g units s all) (is_foreign h t f) = absurd (foreign_or_done h g units t s f all)
    checked_same _ _ (is_done g units s all) (is_done h others t more) =
        ap (λ us. done_report options (paths_of seen) (first_findings limits options seen) us)
        (zip_same (IsUnitReport g) (one_unit g) (checked_units limits options seen) units others all
        (subst (λ k. AllZip (IsUnitReport k) (checked_units limits options seen) others) (ground_same limits options seen h g t s) more))

    none_some : {X : Type 0} (o : Option X) (x : X) → o ≡ None → o ≡ Some x → ⊥
    none_some o x e f = absurd cc

    fault_same : (o : Option ListFault) (f g : ListFault) → o ≡ Some f → o ≡ Some g → f ≡ g
    fault_same o f g e k = cc

    options_same : (one other : Report) → IsOptionsReport limits options seen one → IsOptionsReport limits options seen other → one ≡ other
    options_same _ _ (is_refused_list f e) (is_refused_list g k) = ap list_report (fault_same _ f g e k)
    options_same _ _ (is_refused_list f e) (is_empty k n) = absurd (none_some _ f k e)
    options_same _ _ (is_refused_list f e) (is_checked report k n c) = absurd (none_some _ f k e)
    options_same _ _ (is_empty e n) (is_refused_list g k) = absurd (none_some _ g e k)
    options_same _ _ (is_empty e n) (is_empty k m) = refl
    options_same _ _ (is_empty e n) (is_checked report k m c) = absurd (m n)
    options_same _ _ (is_checked report e n c) (is_refused_list g k) = absurd (none_some _ g e k)
    options_same _ _ (is_checked report e n c) (is_empty k m) = absurd (n m)
    options_same _ _ (is_checked report e n c) (is_checked other k m d) = checked_same report other c d

  words_same : (words : List (List ℕ)) (n m : ℕ) (kind other : WordKind) (word text : List ℕ)
      → command words ≡ Err (record { word = n; kind = kind }) → command words ≡ Err (record { word = m; kind = other })
      → WordAt words n word → WordAt words m text
      → refusal_report (BadWords n kind) (refusal_text kind word) ≡ refusal_report (BadWords m other) (refusal_text other text)
  words_same words n m kind other word text e f w v =
      let refused : ◌≡◌ {A = Refused} (record { word = n; kind = kind }) (record { word = m; kind = other }) = refused_same _ _ (command words) e f in
      let numbers : n ≡ m = ap (λ (r : Refused). r.word) refused in
      let kinds : kind ≡ other = ap (λ (r : Refused). r.kind) refused in
      let texts : word ≡ text = some_same word text (sym w ∙ (subst (λ k. WordAt words k text) (sym numbers) v)) in
      ap (λ k. refusal_report (BadWords k kind) (refusal_text kind word)) numbers
      ∙ ap (λ k. refusal_report (BadWords m k) (refusal_text k word)) kinds
      ∙ ap (λ t. refusal_report (BadWords m other) (refusal_text other t)) texts
    where
      refused_same : (a b : Refused) (r : Result Options Refused) → r ≡ Err a → r ≡ Err b → a ≡ b
      refused_same a b r e f = cc

      some_same : (a b : List ℕ) → Some a ≡ Some b → a ≡ b
      some_same a b e = cc

  err_ok : (c : Result Options Refused) (r : Refused) (o : Options) → c ≡ Err r → c ≡ Ok o → ⊥
  err_ok c r o e f = absurd cc

  ok_same : (c : Result Options Refused) (a b : Options) → c ≡ Ok a → c ≡ Ok b → a ≡ b
  ok_same c a b e f = cc

  pub one_report : (limits : RunLimits) (words : List (List ℕ)) (seen : List SeenEntry) (one other : Report)
      → IsReport limits words seen one → IsReport limits words seen other → one ≡ other
  one_report limits words seen _ _ (is_bad_word n kind word e w) (is_bad_word m other text f v) = words_same words n m kind other word text e f w v
  one_report limits words seen _ _ (is_bad_word n kind word e w) (is_read options report f r) = absurd (err_ok _ _ options e f)
  one_report limits words seen _ _ (is_read options report f r) (is_bad_word n kind word e w) = absurd (err_ok _ _ options e f)
  one_report limits words seen _ _ (is_read options report e r) (is_read others other f s) =
      options_same limits options seen report other r
      (subst (λ o. IsOptionsReport limits o seen other) (ok_same _ others options f e) s)
