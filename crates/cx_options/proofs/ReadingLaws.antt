-- Reading from left to right comes to the definition of the command line.
use Rattle.std.proofs.Common.{◌≡◌, ℕ, List, [], ◌∷◌, ◌++◌, Bool, true, false, ◌||◌, Option, Some, Result, Ok, Err, refl, sym, ap, ◌∙◌, append_assoc}
use Rattle.std.specs.List.{last_or}
use Rattle.std.proofs.lemmas.List.Elements.{filter_map-append}
use Rattle.std.proofs.lemmas.List.Folds.{list_any-append}
use Rattle.cx_options.specs.declared.answer.Options.{Options}
use Rattle.cx_options.specs.declared.fault.WordKind.{WordKind}
use Rattle.cx_options.specs.declared.setting.Setting.{Setting}
use Rattle.cx_options.specs.declared.setting.Setting.TheVariants as setting
use Rattle.cx_options.specs.Command.{Refused, before_others, command, made_of, options_of, settings}
use Rattle.cx_options.specs.Settings.{Asked, asked}
use Rattle.cx_options.specs.Spellings.{Given, givens}
use Rattle.cx_options.specs.Shapes.Reading.{read, read_on, with_setting}

append_nil : {A : Type 0} (xs : List A) → xs ++ [] ≡ xs
append_nil [] = refl
append_nil (x ∷ xs) = ap (λ ys. x ∷ ys) (append_nil xs)

or_false : (b : Bool) → (b || false) ≡ b
or_false true = refl
or_false false = refl

or_true : (b : Bool) → (b || true) ≡ true
or_true true = refl
or_true false = refl

last_end : {A : Type 0} (o : Option A) (xs : List A) (x : A) → last_or o (xs ++ x ∷ []) ≡ Some x
last_end o [] x = refl
last_end o (y ∷ xs) x = last_end (Some y) xs x

-- the options of settings with one more behind them
pub options_more : (ss : List Setting) (s : Setting) → options_of (ss ++ s ∷ []) ≡ with_setting (options_of ss) s
unfolding options_of with_setting
options_more ss (setting.Path path) = simp (filter_map-append, list_any-append, append_nil, or_false)
options_more ss (setting.Define define) = simp (filter_map-append, list_any-append, append_nil, or_false)
options_more ss (setting.Undefine name) = simp (filter_map-append, list_any-append, append_nil, or_false)
options_more ss (setting.Folder path) = simp (filter_map-append, list_any-append, append_nil, or_false)
options_more ss setting.Quiet = simp (filter_map-append, list_any-append, append_nil, or_false, or_true)
options_more ss (setting.Enable e) = simp (filter_map-append, list_any-append, append_nil, or_false)
options_more ss (setting.List list) = simp (filter_map-append, list_any-append, append_nil, or_false)
options_more ss (setting.ErrorExitcode code) = simp (filter_map-append, list_any-append, append_nil, or_false, last_end)
options_more ss setting.Force = simp (filter_map-append, list_any-append, append_nil, or_false, last_end)
options_more ss (setting.MaxConfigs n) = simp (filter_map-append, list_any-append, append_nil, or_false, last_end)
options_more ss setting.Nothing = simp (filter_map-append, list_any-append, append_nil, or_false)

-- the options of settings, and of those of words behind them
abbrev made_behind : List Setting → Result (List Setting) Refused → Result Options Refused
made_behind done (Ok ss) = Ok (options_of (done ++ ss))
made_behind done (Err refused) = Err refused

behind_more : (done : List Setting) (s : Setting) (others : Result (List Setting) Refused) (word : ℕ)
    → made_behind (done ++ s ∷ []) others ≡ made_behind done (before_others word (Ok s) others)
behind_more done s (Ok ss) word = ap (λ (ss : List Setting). made_of (Ok ss)) (append_assoc done (s ∷ []) ss)
behind_more done s (Err refused) word = refl

read_behind : (done : List Setting) (gs : List Given) → read (options_of done) gs ≡ made_behind done (settings gs)
unfolding read settings
read_behind done [] = ap (λ (ss : List Setting). made_of (Ok ss)) (sym (append_nil done))
read_behind done (g ∷ gs) =
    elim (asked g) as (λ (a : Asked). read_on (options_of done) g.word a (λ o. read o gs) ≡ made_behind done (before_others g.word a (settings gs))) [
      | Ok s ↦ ap (λ o. read o gs) (sym (options_more done s)) ∙ read_behind (done ++ s ∷ []) gs ∙ behind_more done s (settings gs) g.word
      | Err kind ↦ refl
    ]

made_all : (o : Result (List Setting) Refused) → made_behind [] o ≡ made_of o
made_all (Ok ss) = refl
made_all (Err refused) = refl

pub read_words : (words : List (List ℕ)) → read (options_of []) (givens 0 words) ≡ command words
unfolding command
read_words words = read_behind [] (givens 0 words) ∙ made_all (settings (givens 0 words))

-- one step
pub read_end : (o : Options) → read o [] ≡ Ok o
unfolding read
read_end o = refl

pub read_taken : (o : Options) (g : Given) (gs : List Given) (s : Setting) → asked g ≡ Ok s → read o (g ∷ gs) ≡ read (with_setting o s) gs
unfolding read
read_taken o g gs s e = rw e

pub read_refused : (o : Options) (g : Given) (gs : List Given) (kind : WordKind) → asked g ≡ Err kind → read o (g ∷ gs) ≡ Err (record { word = g.word; kind = kind })
unfolding read
read_refused o g gs kind e = rw e

pub ruleset reading_laws = (read_words, read_end, read_taken, read_refused)
