use Rattle.std.proofs.Common.{◌≡◌, ℕ, zero, suc, ◌-◌, ◌<◌, List, [], ◌∷◌, ◌++◌, length, reverse, get_or, set, refl, sym, ◌∙◌, ap, arith}
use Rattle.std.proofs.lemmas.List.{reverse-append}
use Rattle.std.specs.Vec.{vec_len}
use Rattle.cx_macro.proofs.stack.Stack.replace.Goals as goal

-- another last member
replaced : {X : Type 0} (xs : List X) (n : ℕ) (x y : X) → suc n ≡ length xs → x ≡ get_or xs n x
    → (rest : List X) × (reverse xs ≡ x ∷ rest) × (reverse (set xs n y) ≡ y ∷ rest)
replaced [] n x y l e = absurd (omega arith)
replaced (z ∷ []) zero x y l e = ([], ap (λ t. t ∷ []) (sym e), refl)
replaced (z ∷ w ∷ ws) zero x y l e = absurd (omega arith)
replaced (z ∷ zs) (suc n) x y l e =
    let h = replaced zs n x y (omega arith) e in (
      h.0 ++ z ∷ [],
      reverse-append (z ∷ []) zs ∙ ap (λ t. t ++ z ∷ []) h.1,
      reverse-append (z ∷ []) (set zs n y) ∙ ap (λ t. t ++ z ∷ []) h.2,
    )

pub returns : goal.returns
returns g c =
    let counted = c.self.inside.items.ok.0 in
    let some : 0 < length c.self.inside.items.items = c.in_ok-top.ensures.item.3.0 in
    let last : suc (vec_len c.self.inside.items - 1) ≡ length c.self.inside.items.items = omega arith in
    let h = replaced c.self.inside.items.items (vec_len c.self.inside.items - 1) c.in_ok-top.top.now c.replace.new.dest last c.in_ok-top.ensures.value in (
      h.0,
      sym c.self.view_is ∙ (h.1 ∙ ap (λ t. t ∷ h.0) (sym c.replace.ensures.value)),
      h.2 ∙ ap (λ t. t ∷ h.0) c.replace.ensures.after,
    )
