-- At most one thing is told of a unit; and something is, unless the tokens of a configuration are no first text.
use Rattle.std.proofs.Common.{◌≡◌, ℕ, zero, suc, ◌<◌, List, [], ◌∷◌, ◌++◌, Option, Some, None, Result, Ok, Err, get_or, length, refl, sym, ap, subst, ◌∙◌, arith}
use Rattle.std.specs.List.{AllZip}
use Rattle.cx_base.specs.declared.finding.Finding.{Finding}
use Rattle.cx_tokens.specs.declared.token.Token.{Token}
use Rattle.cx_first.specs.declared.runs.RunEnd.{RunEnd}
use Rattle.cx_first.specs.declared.runs.RunEnd.TheVariants.{Finished, Stuck}
use Rattle.cx_first.specs.Grammar.{IsFirstText}
use Rattle.cx_first.specs.Tree.{Source}
use Rattle.cx_first.proofs.RunLaws.{ends_same}
use Rattle.cx_first.proofs.SameLaws.{text_same}
use Rattle.cx_pre.specs.declared.config.Config.{Config}
use Rattle.cx_pre.specs.declared.fault.PreFault.{PreFault}
use Rattle.cx_pre.specs.Choosing.{IsChosen}
use Rattle.cx_pre.specs.Stages.{Answer}
use Rattle.cx_pre.proofs.OneLaws.{one_answer}
use Rattle.cx_pre.proofs.SomeLaws.{some_answer}
use Rattle.cx_pre.proofs.StartLaws.{one_start, some_start}
use Rattle.cx_pre.proofs.ValueLaws.{one_reading, some_value}
use Rattle.cx_shelf.specs.declared.shelf.Shelf.{Shelf}
use Rattle.cx_unit.specs.declared.report.UnitReport.{UnitReport}
use Rattle.cx_unit.specs.declared.told.Told.{Told}
use Rattle.cx_unit.specs.declared.told.Told.TheVariants.{Findings}
use Rattle.cx_unit.specs.First.{Finds, FindsBy, IsFindingAt, finding_of}
use Rattle.cx_unit.specs.Told.{IsForeign, IsTold, missing_findings, of_fault, of_text, told_of_fault}
use Rattle.cx_unit.specs.Units.{Ground, HasForeign, IsForeignUnit, IsUnitReport, configurations_of, configured, configured_report, faulty, files_fault, plain_report, shelf_number, unread, unreadable_files}
use Rattle.cx_unit.proofs.EndLaws.{some_found}

-- ---- what is found in a first text

finding_same : (source : Source) (statement node : ℕ) (one other : Finding)
    → IsFindingAt source statement node one → IsFindingAt source statement node other → one ≡ other
finding_same source statement node one other a b =
    let ends = ends_same source (Stuck statement node a.cause) (Stuck statement node b.cause) a.stuck b.stuck in
    let cause : a.cause ≡ b.cause = cc in
    let stands = sym a.stands ∙ b.stands in
    let told : a.told ≡ b.told = cc in
    a.is ∙ (ap (λ c. finding_of c a.told) cause ∙ (ap (λ t. finding_of b.cause t) told ∙ sym b.is))

found_same : (source : Source) (end : RunEnd) (one other : List Finding) → FindsBy source end one → FindsBy source end other → one ≡ other
found_same source Finished one other a b = a ∙ sym b
found_same source (Stuck statement node cause) one other a b =
    a.2 ∙ (ap (λ f. f ∷ []) (finding_same source statement node a.0 b.0 a.1 b.1) ∙ sym b.2)

finds_same : (source : Source) (one other : List Finding) → Finds source one → Finds source other → one ≡ other
finds_same source one other a b =
    found_same source a.0 one other a.2 (subst (λ e. FindsBy source e other) (ends_same source b.0 a.0 b.1 a.1) b.2)

-- ---- a configuration

module _ (some other : Result (List Token) PreFault) (same : some ≡ other) where
  fault_same : (fault bad : PreFault) → some ≡ Err fault → other ≡ Err bad → fault ≡ bad
  fault_same fault bad e f = cc

  tokens_same : (tokens others : List Token) → some ≡ Ok tokens → other ≡ Ok others → tokens ≡ others
  tokens_same tokens others e f = cc

  tokens_or_fault : (tokens : List Token) (fault : PreFault) → some ≡ Ok tokens → other ≡ Err fault → ⊥
  tokens_or_fault tokens fault e f = absurd cc

module _ (shelf : Shelf) (unit : ℕ) (config : Config) where
  answer_same : (a b : Answer) → IsChosen shelf unit config a → IsChosen shelf unit config b → a ≡ b
  answer_same a b c d = one_answer one_reading one_start shelf unit config a b c d

  chosen_same : (a b : Answer) → IsChosen shelf unit config a → IsChosen shelf unit config b → a.tokens ≡ b.tokens
  chosen_same a b c d = let same = answer_same a b c d in λ i. (same i).tokens

  told_same : (one other : Told) → IsTold shelf unit config one → IsTold shelf unit config other → one ≡ other
  told_same one other (of_fault a fault c e) (of_fault b bad d f) =
      let faults = fault_same a.tokens b.tokens (chosen_same a b c d) fault bad e f in
      let same = answer_same a b c d in
      λ i. told_of_fault (same i).missing (faults i)
  told_same one other (of_fault a fault c e) (of_text b tokens source found d f t h) =
      absurd (tokens_or_fault b.tokens a.tokens (chosen_same b a d c) tokens fault f e)
  told_same one other (of_text a tokens source found c e t h) (of_fault b bad d f) =
      absurd (tokens_or_fault a.tokens b.tokens (chosen_same a b c d) tokens bad e f)
  told_same one other (of_text a tokens source found c e t h) (of_text b others again more d f s k) =
      let texts = tokens_same a.tokens b.tokens (chosen_same a b c d) tokens others e f in
      let sources = text_same 256 tokens source again t (subst (λ ts. IsFirstText ts again) (sym texts) s) in
      let finds = finds_same source found more h (subst (λ x. Finds x more) (sym sources) k) in
      let same = answer_same a b c d in
      λ i. Findings (missing_findings (same i).missing ++ finds i)

  told_or_none : (told : Told) → IsTold shelf unit config told → IsForeign shelf unit config → ⊥
  told_or_none told (of_fault a fault c e) none =
      tokens_or_fault none.answer.tokens a.tokens (chosen_same none.answer a none.chosen c) none.tokens fault none.is e
  told_or_none told (of_text a tokens source found c e t h) none =
      none.foreign source
      (subst (λ ts. IsFirstText ts source) (tokens_same a.tokens none.answer.tokens (chosen_same a none.answer c none.chosen) tokens none.tokens e none.is) t)

  -- it is refuted that nothing is told of a configuration whose tokens are a first text
  some_told : ((told : Told) → IsTold shelf unit config told → ⊥) → (IsForeign shelf unit config → ⊥) → ⊥
  some_told no_told no_foreign =
      let a = some_answer some_value some_start shelf unit config in by a.0 a.1 a.0.tokens refl
    where
      by : (a : Answer) → IsChosen shelf unit config a → (chosen : Result (List Token) PreFault) → a.tokens ≡ chosen → ⊥
      by a c (Err fault) e = no_told (told_of_fault a.missing fault) (of_fault a fault c e)
      by a c (Ok tokens) e = no_foreign (record {
        answer = a;
        chosen = c;
        tokens = tokens;
        is = e;
        foreign = λ source t. let f = some_found source in
            no_told (Findings (missing_findings a.missing ++ f.0)) (of_text a tokens source f.0 c e t f.1);
      })

-- ---- the configurations of a unit

module _ (shelf : Shelf) (unit : ℕ) where
  tolds_same : (configs : List Config) (some others : List Told) → AllZip (IsTold shelf unit) configs some
      → AllZip (IsTold shelf unit) configs others → some ≡ others
  tolds_same [] [] [] a b = refl
  tolds_same [] [] (told ∷ tolds) a b = absurd b
  tolds_same [] (told ∷ tolds) others a b = absurd a
  tolds_same (config ∷ configs) [] others a b = absurd a
  tolds_same (config ∷ configs) (told ∷ tolds) [] a b = absurd b
  tolds_same (config ∷ configs) (told ∷ tolds) (other ∷ others) a b =
      let first = told_same shelf unit config told other a.0 b.0 in
      let rest = tolds_same configs tolds others a.1 b.1 in
      λ i. first i ∷ rest i

  told_at : (configs : List Config) (tolds : List Told) (n : ℕ) (config : Config) → AllZip (IsTold shelf unit) configs tolds
      → n < length configs → get_or configs n config ≡ config → (told : Told) × IsTold shelf unit config told
  told_at [] tolds n config all below at = absurd (omega (arith, below))
  told_at (first ∷ configs) [] n config all below at = absurd all
  told_at (first ∷ configs) (told ∷ tolds) zero config all below at = (told, subst (λ c. IsTold shelf unit c told) at all.0)
  told_at (first ∷ configs) (told ∷ tolds) (suc n) config all below at = told_at configs tolds n config all.1 (omega (arith, below)) at

  tolds_or_none : (configs : List Config) (tolds : List Told) → AllZip (IsTold shelf unit) configs tolds → HasForeign shelf unit configs → ⊥
  tolds_or_none configs tolds all has =
      let told = told_at configs tolds has.1.0 has.0 all has.1.1 has.1.2 in told_or_none shelf unit has.0 told.0 told.1 has.2

  foreign_first : (config : Config) (configs : List Config) → IsForeign shelf unit config → HasForeign shelf unit (config ∷ configs)
  foreign_first config configs foreign = (config, (0, omega arith, refl), foreign)

  foreign_behind : (first : Config) (configs : List Config) → HasForeign shelf unit configs → HasForeign shelf unit (first ∷ configs)
  foreign_behind first configs has = let below = has.1.1 in (has.0, (suc has.1.0, omega (arith, below), has.1.2), has.2)

  some_tolds : (configs : List Config) → ((tolds : List Told) → AllZip (IsTold shelf unit) configs tolds → ⊥)
      → (HasForeign shelf unit configs → ⊥) → ⊥
  some_tolds [] no_tolds no_foreign = no_tolds [] tt
  some_tolds (config ∷ configs) no_tolds no_foreign =
      some_tolds configs
      (λ tolds all. some_told shelf unit config (λ told is. no_tolds (told ∷ tolds) (is, all)) (λ foreign. no_foreign (foreign_first config configs foreign)))
      (λ has. no_foreign (foreign_behind config configs has))

-- ---- a unit

no_member : (all more : List Finding) (found : Finding) → all ≡ [] → all ≡ found ∷ more → ⊥
no_member all more found e f = absurd cc

no_fault : (fault : Option Finding) (found : Finding) → fault ≡ None → fault ≡ Some found → ⊥
no_fault fault found e f = absurd cc

fault_is_same : (fault : Option Finding) (one other : Finding) → fault ≡ Some one → fault ≡ Some other → one ≡ other
fault_is_same fault one other e f = cc

module _ (g : Ground) (path : List ℕ) where
  pub one_report : (one other : UnitReport) → IsUnitReport g path one → IsUnitReport g path other → one ≡ other
  one_report one other (unread found more u) (unread first rest v) = ap (plain_report path) (sym u ∙ v)
  one_report one other (unread found more u) (faulty first v f) = absurd (no_member (unreadable_files g path) more found v u)
  one_report one other (unread found more u) (configured tolds v f all) = absurd (no_member (unreadable_files g path) more found v u)
  one_report one other (faulty found u e) (unread first rest v) = absurd (no_member (unreadable_files g path) rest first u v)
  one_report one other (faulty found u e) (faulty first v f) =
      ap (λ x. plain_report path (x ∷ [])) (fault_is_same (files_fault g path) found first e f)
  one_report one other (faulty found u e) (configured tolds v f all) = absurd (no_fault (files_fault g path) found f e)
  one_report one other (configured tolds u e all) (unread first rest v) = absurd (no_member (unreadable_files g path) rest first u v)
  one_report one other (configured tolds u e all) (faulty first v f) = absurd (no_fault (files_fault g path) first e f)
  one_report one other (configured tolds u e all) (configured others v f each) =
      ap (configured_report g path) (tolds_same g.shelf (shelf_number g path) (configurations_of g path) tolds others all each)

  pub report_or_none : (report : UnitReport) → IsForeignUnit g path → IsUnitReport g path report → ⊥
  report_or_none report none (unread found more u) = no_member (unreadable_files g path) more found none.read u
  report_or_none report none (faulty found u f) = no_fault (files_fault g path) found none.sound f
  report_or_none report none (configured tolds u f all) =
      tolds_or_none g.shelf (shelf_number g path) (configurations_of g path) tolds all none.foreign

  pub some_report : ((report : UnitReport) → IsUnitReport g path report → ⊥) → (IsForeignUnit g path → ⊥) → ⊥
  some_report no_report no_foreign = by (unreadable_files g path) refl (files_fault g path) refl
    where
      by : (all : List Finding) → unreadable_files g path ≡ all → (fault : Option Finding) → files_fault g path ≡ fault → ⊥
      by (found ∷ more) u fault f = no_report (plain_report path (found ∷ more)) (unread found more u)
      by [] u (Some found) f = no_report (plain_report path (found ∷ [])) (faulty found u f)
      by [] u None f =
          some_tolds g.shelf (shelf_number g path) (configurations_of g path)
          (λ tolds all. no_report (configured_report g path tolds) (configured tolds u f all))
          (λ has. no_foreign (record { read = u; sound = f; foreign = has }))
