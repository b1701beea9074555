-- What is told of configurations, one after another.
use Rattle.std.proofs.Common.{◌≡◌, ℕ, ◌+◌, ◌<◌, ◌≤◌, Contains, List, [], ◌∷◌, ◌++◌, get_or, length, take, ap, subst, sym, ◌∙◌}
use Rattle.std.specs.List.{AllZip}
use Rattle.std.proofs.lemmas.List.{take_all, take_more}
use Rattle.cx_pre.specs.declared.config.Config.{Config}
use Rattle.cx_shelf.specs.declared.shelf.Shelf.{Shelf}
use Rattle.cx_unit.specs.Told.{IsForeign}
use Rattle.cx_unit.specs.Units.{HasForeign}

module _ {A B : Type 0} (R : A → B → Type 0) where
  one_more : (xs : List A) (ys : List B) (x : A) (y : B) → AllZip R xs ys → R x y → AllZip R (xs ++ x ∷ []) (ys ++ y ∷ [])
  one_more [] [] x y all r = (r, tt)
  one_more [] (b ∷ ys) x y all r = absurd all
  one_more (a ∷ xs) [] x y all r = absurd all
  one_more (a ∷ xs) (b ∷ ys) x y all r = (all.0, one_more xs ys x y all.1 r)

  pub zip_next : (xs : List A) (ys more : List B) (n : ℕ) (x : A) (y : B) → n < length xs → get_or xs n x ≡ x → AllZip R (take n xs) ys → R x y
      → more ≡ ys ++ y ∷ [] → AllZip R (take (n + 1) xs) more
  zip_next xs ys more n x y below at all r e =
      subst (AllZip R (take (n + 1) xs)) (sym e)
      (subst (λ zs. AllZip R zs (ys ++ y ∷ [])) (sym (take_more xs n x below ∙ at_end at)) (one_more (take n xs) ys x y all r))
    where
      at_end : get_or xs n x ≡ x → take n xs ++ get_or xs n x ∷ [] ≡ take n xs ++ x ∷ []
      at_end e = ap (λ z. take n xs ++ z ∷ []) e

  pub zip_end : (xs : List A) (ys : List B) (n : ℕ) → length xs ≤ n → AllZip R (take n xs) ys → AllZip R xs ys
  zip_end xs ys n past all = subst (λ zs. AllZip R zs ys) (take_all n xs past) all

pub foreign_at : (shelf : Shelf) (unit : ℕ) (configs : List Config) (n : ℕ) (config : Config) → n < length configs → get_or configs n config ≡ config
    → IsForeign shelf unit config → HasForeign shelf unit configs
foreign_at shelf unit configs n config below at foreign = (config, (n, below, at), foreign)
