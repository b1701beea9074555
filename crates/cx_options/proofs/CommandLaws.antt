-- Laws of the command line.
use Rattle.std.proofs.Common.{◌≡◌, ◌≢◌, ℕ, ◌+◌, ◌<◌, List, [], ◌∷◌, ◌++◌, Bool, true, false, ◌||◌, Option, None, Some, Result, Ok, Err, length, refl, sym, ap, subst, ◌∙◌, ◌⊎◌, inl, inr, ⊎_elim, arith}
use Rattle.std.specs.Prelude.{cond, ◌&&◌, ◌==◌, bytes_eq, codes, map, nat_eq, not}
use Rattle.std.specs.List.{find, list_all, list_any, slice_split}
use Rattle.std.specs.Option.{option_map}
use Rattle.std.proofs.lemmas.Bool.Decides.{nat_tests}
use Rattle.cx_options.specs.declared.answer.Options.{Options}
use Rattle.cx_options.specs.declared.enabled.Enabled.{Enabled}
use Rattle.cx_options.specs.declared.fault.WordKind.{WordKind}
use Rattle.cx_options.specs.declared.fault.WordKind.TheVariants as kind
use Rattle.cx_options.specs.declared.setting.Setting.{Setting}
use Rattle.cx_options.specs.declared.setting.Setting.TheVariants as setting
use Rattle.cx_options.specs.declared.spelling.Purpose.{Purpose}
use Rattle.cx_options.specs.declared.spelling.Purpose.TheVariants as purpose
use Rattle.cx_options.specs.Arguments.{definition, enabled, enabled_alone, enabled_by, groups, is_comma, is_file, is_name, nothing, number_in, with_others}
use Rattle.cx_options.specs.Command.{Bound, Refused, at_most, before_others, bound_of, command, every, is_every, last_of, made_of, number_at_most, options_of, settings, switched_on}
use Rattle.cx_options.specs.Settings.{Asked, asked, by_argument, by_option, enabling, exitcode, is_path, most_configs, setting_of}
use Rattle.cx_options.specs.Spellings.{Given, Spelt, argument, givens, is_in_next, is_spelt, spelt_as, takes_next, takes_next_by}
use Rattle.cx_options.proofs.SpellingLaws.{givens_one, givens_two}

-- Paths.

not_dash : (b : ℕ) → not (b == 45) ≡ true → nat_eq 45 b ≡ false
not_dash b e = grind (arith, nat_tests)

-- a path is no option
pub path_is_no_option : (w : List ℕ) → is_path w ≡ true → spelt_as w ≡ None
unfolding spelt_as is_spelt
path_is_no_option [] e = absurd cc
path_is_no_option (b ∷ bs) e = let dash = not_dash b e in simp dash

path_takes_none : (w : List ℕ) → is_path w ≡ true → takes_next w ≡ false
unfolding takes_next
path_takes_none w e = ap takes_next_by (path_is_no_option w e)

path_asked : (n : ℕ) (w : List ℕ) → is_path w ≡ true → asked (record { word = n; text = w; next = None }) ≡ Ok (setting.Path w)
unfolding asked
path_asked n w e = rw e

both : (a b : Bool) → (a && b) ≡ true → (a ≡ true) × (b ≡ true)
both true b e = (refl, e)
both false b e = absurd cc

paths_settings : (n : ℕ) (ws : List (List ℕ)) → list_all is_path ws ≡ true → settings (givens n ws) ≡ Ok (map setting.Path ws)
unfolding settings givens
paths_settings n [] e = refl
paths_settings n (w ∷ ws) e =
    let parts = both (is_path w) (list_all is_path ws) e in
    ap settings (givens_one n w ws (path_takes_none w parts.0))
    ∙ ap (λ a. before_others n a (settings (givens (n + 1) ws))) (path_asked n w parts.0)
    ∙ ap (before_others n (Ok (setting.Path w))) (paths_settings (n + 1) ws parts.1)

abbrev with_path : List ℕ → Options → Options
with_path w o = record o { paths = w ∷ o.paths }

paths_options : (ws : List (List ℕ)) → options_of (map setting.Path ws) ≡ record (options_of []) { paths = ws }
unfolding options_of
paths_options [] = refl
paths_options (w ∷ ws) = ap (with_path w) (paths_options ws)

pub command_paths : (ws : List (List ℕ)) → list_all is_path ws ≡ true → command ws ≡ Ok (record (options_of []) { paths = ws })
unfolding command
command_paths ws e = ap made_of (paths_settings 0 ws e) ∙ ap (λ (o : Options). Ok o) (paths_options ws)

-- Bounds.

bound_one : (b : Option Bound) → is_every b ≡ true → number_at_most b ≡ None
bound_one None e = refl
bound_one (Some every) e = refl
bound_one (Some (at_most n)) e = absurd cc

bound_made : (made : Result (List Setting) Refused) (o : Options) → made_of made ≡ Ok o → o.force ≡ true → o.max_configs ≡ None
unfolding options_of
bound_made (Ok ss) o e f =
    let same : options_of ss ≡ o = cc in
    sym (ap (λ (o : Options). o.max_configs) same) ∙ bound_one (last_of bound_of ss) (ap (λ (o : Options). o.force) same ∙ f)
bound_made (Err r) o e f = absurd cc

pub command_bound : (words : List (List ℕ)) (o : Options) → command words ≡ Ok o → o.force ≡ true → o.max_configs ≡ None
unfolding command
command_bound words o e f = bound_made (settings (givens 0 words)) o e f

-- Refused words.

-- the settings of words: the first takes the second along, or does not
settings_two : (n : ℕ) (w next : List ℕ) (ws : List (List ℕ)) → takes_next w ≡ true
    → settings (givens n (w ∷ next ∷ ws)) ≡ before_others n (asked (record { word = n; text = w; next = Some next })) (settings (givens (n + 2) ws))
unfolding settings
settings_two n w next ws t = ap settings (givens_two n w next ws t)

settings_one : (n : ℕ) (w : List ℕ) (ws : List (List ℕ)) → takes_next w ≡ false
    → settings (givens n (w ∷ ws)) ≡ before_others n (asked (record { word = n; text = w; next = None })) (settings (givens (n + 1) ws))
unfolding settings
settings_one n w ws t = ap settings (givens_one n w ws t)

settings_last : (n : ℕ) (w : List ℕ) → settings (givens n (w ∷ [])) ≡ before_others n (asked (record { word = n; text = w; next = None })) (Ok [])
unfolding settings givens
settings_last n w = refl

settings_none : (n : ℕ) (r : Refused) → settings (givens n []) ≡ Err r → ⊥
unfolding settings givens
settings_none n r e = absurd cc

-- what is refused is this word, or a later one
refused_ways : (P : Type 0) (n : ℕ) (a : Asked) (others : Result (List Setting) Refused) (r : Refused) → before_others n a others ≡ Err r
    → ((k : WordKind) → a ≡ Err k → r ≡ record { word = n; kind = k } → P) → (others ≡ Err r → P) → P
refused_ways P n (Err k) others r e here later = here k refl cc
refused_ways P n (Ok s) (Err q) r e here later = later e
refused_ways P n (Ok s) (Ok ss) r e here later = absurd cc

-- a refusal stays where other words behind it have it too
refused_kept : (n : ℕ) (a : Asked) (others more : Result (List Setting) Refused) (r : Refused) → before_others n a others ≡ Err r
    → (others ≡ Err r → more ≡ Err r) → before_others n a more ≡ Err r
refused_kept n (Err k) others more r e keep = e
refused_kept n (Ok s) (Err q) more r e keep = ap (before_others n (Ok s)) (keep e)
refused_kept n (Ok s) (Ok ss) more r e keep = absurd cc

-- an argument is not missing
abbrev IsNotMissing : Asked → Type 0
IsNotMissing (Ok s) = Unit {0}
IsNotMissing (Err kind.MissingValue) = ⊥
IsNotMissing (Err _) = Unit {0}

not_missing : (a : Asked) → IsNotMissing a → a ≡ Err kind.MissingValue → ⊥
not_missing a h e = subst IsNotMissing e h

setting_not_missing : (p : Purpose) (n : ℕ) (text : List ℕ) → IsNotMissing (setting_of p n text)
unfolding setting_of
setting_not_missing purpose.Define n text =
    elim (is_name (definition text).name) as (λ b. IsNotMissing (cond b (Ok (setting.Define (definition text))) (Err kind.BadName))) [ true ↦ tt | false ↦ tt ]
setting_not_missing purpose.Undefine n text =
    elim (is_name text) as (λ b. IsNotMissing (cond b (Ok (setting.Undefine text)) (Err kind.BadName))) [ true ↦ tt | false ↦ tt ]
setting_not_missing purpose.Folder n text = tt
setting_not_missing purpose.Quiet n text = tt
setting_not_missing purpose.Enable n text = elim (enabled text) as (λ o. IsNotMissing (enabling o)) [ None ↦ tt | Some e ↦ tt ]
setting_not_missing purpose.FileList n text =
    elim (is_file text) as (λ b. IsNotMissing (cond b (Ok (setting.List (record { word = n; path = text; suppressions = false }))) (Err kind.BadValue))) [ true ↦ tt | false ↦ tt ]
setting_not_missing purpose.ErrorExitcode n text = elim (number_in 0 255 text) as (λ o. IsNotMissing (exitcode o)) [ None ↦ tt | Some e ↦ tt ]
setting_not_missing purpose.Force n text = tt
setting_not_missing purpose.MaxConfigs n text = elim (number_in 1 4096 text) as (λ o. IsNotMissing (most_configs o)) [ None ↦ tt | Some e ↦ tt ]
setting_not_missing purpose.Standard n text =
    elim (bytes_eq text (codes "c11")) as (λ b. IsNotMissing (cond b (Ok setting.Nothing) (Err kind.BadValue))) [ true ↦ tt | false ↦ tt ]
setting_not_missing purpose.Language n text =
    elim (bytes_eq text (codes "c")) as (λ b. IsNotMissing (cond b (Ok setting.Nothing) (Err kind.BadValue))) [ true ↦ tt | false ↦ tt ]

-- with an argument, and where the option has it in its own word, it is not missing
option_not_missing : (n : ℕ) (w : List ℕ) (next : Option (List ℕ)) (o : Option Spelt)
    → (takes_next_by o ≡ false) ⊎ ((x : List ℕ) × (next ≡ Some x)) → IsNotMissing (by_option (record { word = n; text = w; next = next }) o)
option_not_missing n w next None h = tt
option_not_missing n w next (Some s) (inl t) =
    subst (λ (b : Bool). IsNotMissing (by_argument s.purpose n (cond b next (Some s.rest)))) (sym t) (setting_not_missing s.purpose n s.rest)
option_not_missing n w next (Some s) (inr found) =
    subst (λ (o : Option (List ℕ)). IsNotMissing (by_argument s.purpose n (cond (is_in_next s.form s.rest) o (Some s.rest)))) (sym found.1)
    (elim (is_in_next s.form s.rest) as (λ b. IsNotMissing (by_argument s.purpose n (cond b (Some found.0) (Some s.rest)))) [
      | true ↦ setting_not_missing s.purpose n found.0
      | false ↦ setting_not_missing s.purpose n s.rest
    ])

asked_not_missing : (n : ℕ) (w : List ℕ) (next : Option (List ℕ)) → (takes_next w ≡ false) ⊎ ((x : List ℕ) × (next ≡ Some x))
    → IsNotMissing (asked (record { word = n; text = w; next = next }))
unfolding asked takes_next
asked_not_missing n w next h =
    elim (is_path w) as (λ b. IsNotMissing (cond b (Ok (setting.Path w)) (by_option (record { word = n; text = w; next = next }) (spelt_as w)))) [
      | true ↦ tt
      | false ↦ option_not_missing n w next (spelt_as w) h
    ]

-- the last word, where it wants the next one along
option_missing : (n : ℕ) (w : List ℕ) (o : Option Spelt) → takes_next_by o ≡ true → by_option (record { word = n; text = w; next = None }) o ≡ Err kind.MissingValue
option_missing n w None t = absurd cc
option_missing n w (Some s) t = ap (λ (b : Bool). by_argument s.purpose n (cond b None (Some s.rest))) t

path_or_not : (w : List ℕ) → takes_next w ≡ true → is_path w ≡ false
path_or_not w t =
    elim (is_path w) as (λ b. is_path w ≡ b → b ≡ false) [
      | true ↦ λ e. absurd (cc (path_takes_none w e))
      | false ↦ λ e. refl
    ] refl

asked_missing : (n : ℕ) (w : List ℕ) → takes_next w ≡ true → asked (record { word = n; text = w; next = None }) ≡ Err kind.MissingValue
unfolding asked takes_next
asked_missing n w t = rw (path_or_not w t) (option_missing n w (spelt_as w) t)

either : (b : Bool) → (b ≡ true) ⊎ (b ≡ false)
either true = inl refl
either false = inr refl

settings_stay : (n : ℕ) (words more : List (List ℕ)) (r : Refused) → settings (givens n words) ≡ Err r → r.kind ≢ kind.MissingValue
    → settings (givens n (words ++ more)) ≡ Err r
settings_stay n [] more r e other = absurd (settings_none n r e)
settings_stay n (w ∷ []) [] r e other = e
settings_stay n (w ∷ []) (m ∷ more) r e other =
    let last : before_others n (asked (record { word = n; text = w; next = None })) (Ok []) ≡ Err r = sym (settings_last n w) ∙ e in
    ⊎_elim
    (λ (t : takes_next w ≡ true).
    refused_ways (settings (givens n (w ∷ m ∷ more)) ≡ Err r) n _ _ r last
    (λ k a q. absurd (other (ap (λ (r : Refused). r.kind) q ∙ cc (a, asked_missing n w t))))
    (λ o. absurd cc))
    (λ (t : takes_next w ≡ false).
    settings_one n w (m ∷ more) t ∙ refused_kept n _ (Ok []) _ r last (λ o. absurd cc))
    (either (takes_next w))
settings_stay n (w ∷ x ∷ words) more r e other =
    ⊎_elim
    (λ (t : takes_next w ≡ true).
    settings_two n w x (words ++ more) t
    ∙ refused_kept n _ _ _ r (sym (settings_two n w x words t) ∙ e) (λ o. settings_stay (n + 2) words more r o other))
    (λ (t : takes_next w ≡ false).
    settings_one n w (x ∷ (words ++ more)) t
    ∙ refused_kept n _ _ _ r (sym (settings_one n w (x ∷ words) t) ∙ e) (λ o. settings_stay (n + 1) (x ∷ words) more r o other))
    (either (takes_next w))

refused_made : (o : Result (List Setting) Refused) (r : Refused) → made_of o ≡ Err r → o ≡ Err r
refused_made (Ok ss) r e = absurd cc
refused_made (Err q) r e = cc

pub command_stays : (words more : List (List ℕ)) (r : Refused) → command words ≡ Err r → r.kind ≢ kind.MissingValue → command (words ++ more) ≡ Err r
unfolding command
command_stays words more r e other = ap made_of (settings_stay 0 words more r (refused_made _ r e) other)

settings_within : (n : ℕ) (words : List (List ℕ)) (r : Refused) → settings (givens n words) ≡ Err r → r.word < n + length words
settings_within n [] r e = absurd (settings_none n r e)
settings_within n (w ∷ []) r e =
    refused_ways _ n _ _ r (sym (settings_last n w) ∙ e)
    (λ k a q. let at = ap (λ (r : Refused). r.word) q in omega arith) (λ o. absurd cc)
settings_within n (w ∷ x ∷ words) r e =
    ⊎_elim
    (λ (t : takes_next w ≡ true).
    refused_ways _ n _ _ r (sym (settings_two n w x words t) ∙ e)
    (λ k a q. let at = ap (λ (r : Refused). r.word) q in omega arith)
    (λ o. let later = settings_within (n + 2) words r o in omega arith))
    (λ (t : takes_next w ≡ false).
    refused_ways _ n _ _ r (sym (settings_one n w (x ∷ words) t) ∙ e)
    (λ k a q. let at = ap (λ (r : Refused). r.word) q in omega arith)
    (λ o. let later = settings_within (n + 1) (x ∷ words) r o in omega arith))
    (either (takes_next w))

pub command_within : (words : List (List ℕ)) (r : Refused) → command words ≡ Err r → r.word < length words
unfolding command
command_within words r e = let h = settings_within 0 words r (refused_made _ r e) in omega arith

settings_missing : (n : ℕ) (words : List (List ℕ)) (r : Refused) → settings (givens n words) ≡ Err r → r.kind ≡ kind.MissingValue
    → n + length words ≡ r.word + 1
settings_missing n [] r e m = absurd (settings_none n r e)
settings_missing n (w ∷ []) r e m =
    refused_ways _ n _ _ r (sym (settings_last n w) ∙ e)
    (λ k a q. let at = ap (λ (r : Refused). r.word) q in omega arith) (λ o. absurd cc)
settings_missing n (w ∷ x ∷ words) r e m =
    ⊎_elim
    (λ (t : takes_next w ≡ true).
    refused_ways _ n _ _ r (sym (settings_two n w x words t) ∙ e)
    (λ k a q. absurd (not_missing _ (asked_not_missing n w (Some x) (inr (x, refl))) (a ∙ ap (λ (k : WordKind). Err k) (sym (ap (λ (r : Refused). r.kind) q) ∙ m))))
    (λ o. let later = settings_missing (n + 2) words r o m in omega arith))
    (λ (t : takes_next w ≡ false).
    refused_ways _ n _ _ r (sym (settings_one n w (x ∷ words) t) ∙ e)
    (λ k a q. absurd (not_missing _ (asked_not_missing n w None (inl t)) (a ∙ ap (λ (k : WordKind). Err k) (sym (ap (λ (r : Refused). r.kind) q) ∙ m))))
    (λ o. let later = settings_missing (n + 1) (x ∷ words) r o m in omega arith))
    (either (takes_next w))

pub command_missing : (words : List (List ℕ)) (r : Refused) → command words ≡ Err r → r.kind ≡ kind.MissingValue → length words ≡ r.word + 1
unfolding command
command_missing words r e m = let h = settings_missing 0 words r (refused_made _ r e) m in omega arith

-- Style.

abbrev StyleWarns : Enabled → Type 0
StyleWarns e = e.style ≡ true → e.warning ≡ true

abbrev IfEnabled : Option Enabled → Type 0
IfEnabled None = Unit {0}
IfEnabled (Some e) = StyleWarns e

abbrev GroupsWarn : List (List ℕ × Enabled) → Type 0
GroupsWarn [] = Unit {0}
GroupsWarn (group ∷ others) = StyleWarns group.1 × GroupsWarn others

group_warns : (name : List ℕ) (gs : List (List ℕ × Enabled)) → GroupsWarn gs → IfEnabled (option_map (λ group. group.1) (find (λ group. bytes_eq group.0 name) gs))
group_warns name [] h = tt
group_warns name (group ∷ others) h =
    elim (bytes_eq group.0 name) as (λ b. IfEnabled (option_map (λ group. group.1) (cond b (Some group) (find (λ group. bytes_eq group.0 name) others)))) [
      | true ↦ h.0
      | false ↦ group_warns name others h.1
    ]

alone_warns : (name : List ℕ) → IfEnabled (enabled_alone name)
unfolding enabled_alone
alone_warns name =
    group_warns name groups
    ((λ s. refl), ((λ s. refl), ((λ s. absurd cc), ((λ s. absurd cc), ((λ s. absurd cc), ((λ s. absurd cc), ((λ s. refl), tt)))))))

or_warns : (a b c d : Bool) → (a ≡ true → b ≡ true) → (c ≡ true → d ≡ true) → (a || c) ≡ true → (b || d) ≡ true
or_warns true b c d f g e = rw (f refl)
or_warns false true c d f g e = refl
or_warns false false c d f g e = g e

others_warn : (a b : Option Enabled) → IfEnabled a → IfEnabled b → IfEnabled (with_others a b)
others_warn None b h k = tt
others_warn (Some a) None h k = tt
others_warn (Some a) (Some b) h k = or_warns a.style a.warning b.style b.warning h k

names_warn : (names : List (List ℕ)) → IfEnabled (enabled_by names)
unfolding enabled_by
names_warn [] = λ s. absurd cc
names_warn (name ∷ names) = others_warn (enabled_alone name) (enabled_by names) (alone_warns name) (names_warn names)

abbrev SettingWarns : Setting → Type 0
SettingWarns s = StyleWarns (switched_on s)

abbrev AskedWarns : Asked → Type 0
AskedWarns (Ok s) = SettingWarns s
AskedWarns (Err k) = Unit {0}

off : StyleWarns nothing
off s = absurd cc

enabling_warns : (o : Option Enabled) → IfEnabled o → AskedWarns (enabling o)
enabling_warns None h = tt
enabling_warns (Some e) h = h

setting_warns : (p : Purpose) (n : ℕ) (text : List ℕ) → AskedWarns (setting_of p n text)
unfolding setting_of
setting_warns purpose.Define n text =
    elim (is_name (definition text).name) as (λ b. AskedWarns (cond b (Ok (setting.Define (definition text))) (Err kind.BadName))) [ true ↦ off | false ↦ tt ]
setting_warns purpose.Undefine n text =
    elim (is_name text) as (λ b. AskedWarns (cond b (Ok (setting.Undefine text)) (Err kind.BadName))) [ true ↦ off | false ↦ tt ]
setting_warns purpose.Folder n text = off
setting_warns purpose.Quiet n text = off
setting_warns purpose.Enable n text = enabling_warns (enabled text) (names_warn (slice_split is_comma text))
setting_warns purpose.FileList n text =
    elim (is_file text) as (λ b. AskedWarns (cond b (Ok (setting.List (record { word = n; path = text; suppressions = false }))) (Err kind.BadValue))) [ true ↦ off | false ↦ tt ]
setting_warns purpose.ErrorExitcode n text = elim (number_in 0 255 text) as (λ o. AskedWarns (exitcode o)) [ None ↦ tt | Some e ↦ off ]
setting_warns purpose.Force n text = off
setting_warns purpose.MaxConfigs n text = elim (number_in 1 4096 text) as (λ o. AskedWarns (most_configs o)) [ None ↦ tt | Some e ↦ off ]
setting_warns purpose.Standard n text =
    elim (bytes_eq text (codes "c11")) as (λ b. AskedWarns (cond b (Ok setting.Nothing) (Err kind.BadValue))) [ true ↦ off | false ↦ tt ]
setting_warns purpose.Language n text =
    elim (bytes_eq text (codes "c")) as (λ b. AskedWarns (cond b (Ok setting.Nothing) (Err kind.BadValue))) [ true ↦ off | false ↦ tt ]

argument_warns : (p : Purpose) (n : ℕ) (text : Option (List ℕ)) → AskedWarns (by_argument p n text)
argument_warns p n None = tt
argument_warns p n (Some text) = setting_warns p n text

option_warns : (g : Given) (o : Option Spelt) → AskedWarns (by_option g o)
option_warns g None = tt
option_warns g (Some s) = argument_warns s.purpose g.word (argument s g.next)

asked_warns : (g : Given) → AskedWarns (asked g)
unfolding asked
asked_warns g =
    elim (is_path g.text) as (λ b. AskedWarns (cond b (Ok (setting.Path g.text)) (by_option g (spelt_as g.text)))) [
      | true ↦ off
      | false ↦ option_warns g (spelt_as g.text)
    ]

-- settings switch warnings on where they switch style on
abbrev SettingsWarn : Result (List Setting) Refused → Type 0
SettingsWarn (Ok ss) = list_any (λ s. (switched_on s).style) ss ≡ true → list_any (λ s. (switched_on s).warning) ss ≡ true
SettingsWarn (Err r) = Unit {0}

before_warns : (n : ℕ) (a : Asked) (others : Result (List Setting) Refused) → AskedWarns a → SettingsWarn others → SettingsWarn (before_others n a others)
before_warns n (Err k) others h t = tt
before_warns n (Ok s) (Err r) h t = tt
before_warns n (Ok s) (Ok ss) h t = or_warns (switched_on s).style (switched_on s).warning _ _ h t

settings_warn : (gs : List Given) → SettingsWarn (settings gs)
unfolding settings
settings_warn [] = λ s. absurd cc
settings_warn (g ∷ gs) = before_warns g.word (asked g) (settings gs) (asked_warns g) (settings_warn gs)

made_warns : (made : Result (List Setting) Refused) (o : Options) → SettingsWarn made → made_of made ≡ Ok o → o.style ≡ true → o.warning ≡ true
unfolding options_of
made_warns (Ok ss) o h e s =
    let same : options_of ss ≡ o = cc in
    sym (ap (λ (o : Options). o.warning) same) ∙ h (ap (λ (o : Options). o.style) same ∙ s)
made_warns (Err r) o h e s = absurd cc

pub command_warns : (words : List (List ℕ)) (o : Options) → command words ≡ Ok o → o.style ≡ true → o.warning ≡ true
unfolding command
command_warns words o e s = made_warns (settings (givens 0 words)) o (settings_warn (givens 0 words)) e s
