-- What was seen up to a folder stays.
use Rattle.std.proofs.Common.{◌≡◌, ℕ, zero, suc, ◌-◌, ◌≤◌, Bool, true, false, cond, List, [], ◌∷◌, ◌++◌, All, Option, Some, None, is_some, option_map, length, drop, bytes_eq, refl, sym, ap, ◌∙◌, arith, append-nil}
use Rattle.std.specs.List.{find}
use Rattle.std.specs.Option.{option_or}
use Rattle.std.proofs.lemmas.List.{take-append-drop}
use Rattle.std.proofs.lemmas.List.Elements.{All-head, All-tail}
use Rattle.std.proofs.lemmas.List.Folds.{find-append}
use Rattle.std.proofs.lemmas.Slice.Eq.{bytes_eq-Decides}
use Rattle.cx_base.specs.declared.answers.SeenEntry.{SeenEntry}
use Rattle.cx_asking.specs.Shapes.Asks.{IsNew, is_known}
use Rattle.cx_asking.specs.Wishes.{folders_in, is_folder, look_up, up_to_folder}
use Rattle.cx_asking.proofs.IndexLaws.{none_among, up_to_part}
use Rattle.cx_asking.proofs.SeenLaws.{has_path, known_more}

-- what was asked up to a folder was asked
pub known_early : (most : ℕ) (seen : List SeenEntry) (path : List ℕ) → is_known (up_to_folder most seen) path ≡ true → is_known seen path ≡ true
known_early most seen path h =
    let n : ℕ = length (up_to_folder most seen) in
    let whole : up_to_folder most seen ++ drop n seen ≡ seen = ap (λ l. l ++ drop n seen) (up_to_part most seen) ∙ take-append-drop n seen in
    ap (λ s. is_known s path) (sym whole) ∙ known_more (up_to_folder most seen) (drop n seen) path h

-- what is asked from then on is behind it, as far as there are folders left
up_to_more : (most : ℕ) (seen more : List SeenEntry)
    → up_to_folder most (seen ++ more) ≡ up_to_folder most seen ++ up_to_folder (most - length (folders_in seen)) more
unfolding up_to_folder folders_in
up_to_more zero seen more =
    let e : 0 - length (folders_in seen) ≡ 0 = omega arith in
    sym (ap (λ k. up_to_folder k more) e)
up_to_more (suc most) [] more =
    let e : suc most - 0 ≡ suc most = omega arith in
    sym (ap (λ k. up_to_folder k more) e)
up_to_more (suc most) (e ∷ seen) more = by (is_folder e.answer) (λ k. up_to_more k seen more)
  where
    by : (b : Bool) → ((k : ℕ) → up_to_folder k (seen ++ more) ≡ up_to_folder k seen ++ up_to_folder (k - length (folders_in seen)) more)
        → e ∷ up_to_folder (cond b most (suc most)) (seen ++ more)
        ≡ (e ∷ up_to_folder (cond b most (suc most)) seen)
        ++ up_to_folder (suc most - length (cond b (e ∷ folders_in seen) (folders_in seen))) more
    by true rest =
        let less : most - length (folders_in seen) ≡ suc most - length (e ∷ folders_in seen) = omega arith in
        ap (λ l. e ∷ l) (rest most ∙ ap (λ k. up_to_folder most seen ++ up_to_folder k more) less)
    by false rest = ap (λ l. e ∷ l) (rest (suc most))

not_new : (seen : List SeenEntry) (path : List ℕ) (more : List SeenEntry) → is_known seen path ≡ true → All (IsNew seen) more → find (has_path path) more ≡ None
not_new seen path [] known fresh = refl
not_new seen path (e ∷ more) known fresh =
    by (bytes_eq e.path path) refl (not_new seen path more known (All-tail (IsNew seen) e more fresh))
  where
    by : (b : Bool) → bytes_eq e.path path ≡ b → find (has_path path) more ≡ None → cond b (Some e) (find (has_path path) more) ≡ None
    by false t rest = rest
    by true t rest =
        let same : e.path ≡ path = (bytes_eq-Decides e.path path).0 t in
        let none : look_up seen e.path ≡ None = All-head (IsNew seen) e more fresh in
        absurd (two (sym known ∙ ap (λ p. is_known seen p) (sym same) ∙ ap is_some none))
      where
        two : true ≡ false → ⊥
        two h = cc

module _ (most : ℕ) (seen more : List SeenEntry) (path : List ℕ) where
  -- the answer of a path that was asked stays
  pub early_known : is_known seen path ≡ true → All (IsNew seen) more → look_up (up_to_folder most (seen ++ more)) path ≡ look_up (up_to_folder most seen) path
  unfolding look_up
  early_known known fresh =
      ap (option_map (λ e. e.answer))
      (ap (find (has_path path)) (up_to_more most seen more)
      ∙ find-append (has_path path) (up_to_folder most seen) (up_to_folder left more)
      ∙ by (find (has_path path) (up_to_folder most seen)) none)
    where
      left : ℕ
      left = most - length (folders_in seen)

      none : find (has_path path) (up_to_folder left more) ≡ None
      none =
          ap (find (has_path path)) (up_to_part left more)
          ∙ none_among (has_path path) (length (up_to_folder left more)) more (not_new seen path more known fresh)

      by : (o : Option SeenEntry) → find (has_path path) (up_to_folder left more) ≡ None → option_or o (find (has_path path) (up_to_folder left more)) ≡ o
      by None e = e
      by (Some x) e = refl

  -- and any, once there are so many folders
  pub early_full : most ≤ length (folders_in seen) → look_up (up_to_folder most (seen ++ more)) path ≡ look_up (up_to_folder most seen) path
  unfolding up_to_folder
  early_full full =
      let none : most - length (folders_in seen) ≡ 0 = omega arith in
      ap (λ s. look_up s path)
      (up_to_more most seen more ∙ ap (λ k. up_to_folder most seen ++ up_to_folder k more) none ∙ append-nil (up_to_folder most seen))
