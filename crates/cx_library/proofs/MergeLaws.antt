-- What two and three libraries know.
use Rattle.std.proofs.Common.{◌≡◌, ℕ, ◌+◌, Bool, true, false, cond, ◌||◌, List, [], ◌∷◌, Option, Some, None, is_some, option_map, refl, sym, ◌∙◌, ap, zero-add, add-zero, add_assoc}
use Rattle.std.specs.Prelude.{is_none}
use Rattle.std.proofs.lemmas.List.{append_assoc, map-append}
use Rattle.std.proofs.lemmas.List.Elements.{filter-append}
use Rattle.cx_table.specs.NameTable.{Entries, value_of}
use Rattle.cx_library.specs.declared.known.Known.{Known}
use Rattle.cx_library.specs.declared.pod.Pod.{Pod}
use Rattle.cx_library.specs.Joined.{joined, latest, with_later}
use Rattle.cx_library.specs.Known.{grouped_as, is_grouped, over, renumbered}
use Rattle.cx_library.specs.Library.{Contents, all_renumbered, empty, merged}
use Rattle.cx_library.proofs.NameLaws.{value_of-none, by_name, value_of-by_name}
use Rattle.cx_library.proofs.JoinLaws.{both, first_names, new_names, value_of-joined, joined-none}

-- ---- lists that are joined

module _ {V : Type 0} (over : V → V → V) where
  -- nothing before a list
  pub none-joined : (later : Entries V) → joined over [] later ≡ later
  unfolding joined
  none-joined [] = refl
  none-joined (e ∷ es) = rw (value_of-none {V = V} e.0) (ap (λ t. e ∷ t) (none-joined es))

  module _ (assoc : (x y z : V) → over (over x y) z ≡ over x (over y z)) where
    value_assoc : (x : V) (y z : Option V) → with_later over (with_later over x y) z ≡ with_later over x (both over y z)
    value_assoc x None z = refl
    value_assoc x (Some y) None = refl
    value_assoc x (Some y) (Some z) = assoc x y z

    first_assoc : (es b c : Entries V) → first_names over (first_names over es b) c ≡ first_names over es (joined over b c)
    first_assoc [] b c = refl
    first_assoc (e ∷ es) b c = rw (value_of-joined over b c e.0, first_assoc es b c, value_assoc e.1 (value_of b e.0) (value_of c e.0)) refl

    new_first : (a es c : Entries V) → first_names over (new_names over a es) c ≡ new_names over a (first_names over es c)
    new_first a [] c = refl
    new_first a (e ∷ es) c = by (is_none (value_of a e.0)) (new_first a es c)
      where
        by : (b : Bool) → first_names over (new_names over a es) c ≡ new_names over a (first_names over es c)
            → first_names over (cond b (e ∷ new_names over a es) (new_names over a es)) c
            ≡ cond b ((e.0, with_later over e.1 (value_of c e.0)) ∷ new_names over a (first_names over es c)) (new_names over a (first_names over es c))
        by true h = ap (λ t. (e.0, with_later over e.1 (value_of c e.0)) ∷ t) h
        by false h = h

    new_new : (a b es : Entries V) → new_names over (joined over a b) es ≡ new_names over a (new_names over b es)
    new_new a b [] = refl
    new_new a b (e ∷ es) = rw (value_of-joined over a b e.0) (by (value_of a e.0) (value_of b e.0) refl (new_new a b es))
      where
        by : (x y : Option V) → value_of a e.0 ≡ x → new_names over (joined over a b) es ≡ new_names over a (new_names over b es)
            → cond (is_none (both over x y)) (e ∷ new_names over (joined over a b) es) (new_names over (joined over a b) es)
            ≡ new_names over a (cond (is_none y) (e ∷ new_names over b es) (new_names over b es))
        by None None n h = rw n (ap (λ t. e ∷ t) h)
        by None (Some y) n h = h
        by (Some x) None n h = rw n h
        by (Some x) (Some y) n h = h

    abbrev one_first : Entries V → List ℕ × V → List ℕ × V
    one_first c e = (e.0, with_later over e.1 (value_of c e.0))

    pub joined_assoc : (a b c : Entries V) → joined over (joined over a b) c ≡ joined over a (joined over b c)
    unfolding joined
    joined_assoc a b c =
        rw (
          map-append (one_first c) (first_names over a b) (new_names over a b),
          filter-append (λ (e : List ℕ × V). is_none (value_of a e.0)) (first_names over b c) (new_names over b c),
        )
        (append_assoc (first_names over (first_names over a b) c) (first_names over (new_names over a b) c) (new_names over (joined over a b) c)
        ∙ rw (first_assoc a b c, new_first a b c, new_new a b c) refl)

module _ {V : Type 0} (over : V → V → V) (f : V → V) (same : (x y : V) → f (over x y) ≡ over (f x) (f y)) where
  abbrev each : Entries V → Entries V
  each es = by_name (λ _. f) es

  value_each : (x : V) (y : Option V) → f (with_later over x y) ≡ with_later over (f x) (option_map f y)
  value_each x None = refl
  value_each x (Some y) = same x y

  first_each : (es c : Entries V) → each (first_names over es c) ≡ first_names over (each es) (each c)
  first_each [] c = refl
  first_each (e ∷ es) c = rw (value_of-by_name (λ _. f) c e.0, first_each es c, value_each e.1 (value_of c e.0)) refl

  new_each : (a es : Entries V) → each (new_names over a es) ≡ new_names over (each a) (each es)
  new_each a [] = refl
  new_each a (e ∷ es) = rw (value_of-by_name (λ _. f) a e.0) (by (value_of a e.0) (new_each a es))
    where
      by : (o : Option V) → each (new_names over a es) ≡ new_names over (each a) (each es)
          → each (cond (is_none o) (e ∷ new_names over a es) (new_names over a es)) ≡ cond (is_none (option_map f o)) ((e.0, f e.1) ∷ new_names over (each a) (each es)) (new_names over (each a) (each es))
      by None h = ap (λ t. (e.0, f e.1) ∷ t) h
      by (Some v) h = h

  abbrev one_each : List ℕ × V → List ℕ × V
  one_each e = (e.0, f e.1)

  pub joined_each : (a b : Entries V) → each (joined over a b) ≡ joined over (each a) (each b)
  unfolding joined
  joined_each a b =
      map-append one_each (first_names over a b) (new_names over a b) ∙ rw (first_each a b, new_each a b) refl

-- ---- what is known of a function

raised_none : (o : Option ℕ) → option_map (λ n. 0 + n) o ≡ o
raised_none None = refl
raised_none (Some n) = rw (zero-add n) refl

raised_twice : (j k : ℕ) (o : Option ℕ) → option_map (λ n. j + n) (option_map (λ n. k + n) o) ≡ option_map (λ n. j + k + n) o
raised_twice j k None = refl
raised_twice j k (Some n) = ap Some (sym (add_assoc j k n))

is_some-raised : (k : ℕ) (o : Option ℕ) → is_some (option_map (λ n. k + n) o) ≡ is_some o
is_some-raised k None = refl
is_some-raised k (Some n) = refl

renumbered-zero : (known : Known) → renumbered 0 known ≡ known
renumbered-zero known = rw (raised_none known.described.allocates, raised_none known.described.frees) refl

renumbered_twice : (j k : ℕ) (known : Known) → renumbered j (renumbered k known) ≡ renumbered (j + k) known
renumbered_twice j k known = rw (raised_twice j k known.described.allocates, raised_twice j k known.described.frees) refl

all-zero : (functions : Entries Known) → all_renumbered 0 functions ≡ functions
all-zero [] = refl
all-zero (e ∷ es) = rw (renumbered-zero e.1, all-zero es) refl

all_twice : (j k : ℕ) (functions : Entries Known) → all_renumbered j (all_renumbered k functions) ≡ all_renumbered (j + k) functions
all_twice j k [] = refl
all_twice j k (e ∷ es) = rw (renumbered_twice j k e.1, all_twice j k es) refl

pub is_grouped-renumbered : (k : ℕ) (known : Known) → is_grouped (renumbered k known).described ≡ is_grouped known.described
is_grouped-renumbered k known = rw (is_some-raised k known.described.allocates, is_some-raised k known.described.frees) refl

over_renumbered : (k : ℕ) (x y : Known) → renumbered k (over x y) ≡ over (renumbered k x) (renumbered k y)
over_renumbered k x y = rw (is_grouped-renumbered k y) (by (is_grouped y.described) y.stated)
  where
    by : (g s : Bool) → renumbered k (record { described = grouped_as (cond g y.described x.described) (cond s y.described x.described); stated = x.stated || y.stated })
        ≡ record { described = grouped_as (cond g (renumbered k y).described (renumbered k x).described) (cond s (renumbered k y).described (renumbered k x).described); stated = x.stated || y.stated }
    by true true = refl
    by true false = refl
    by false true = refl
    by false false = refl

or_assoc : (x y z : Bool) → ((x || y) || z) ≡ (x || (y || z))
or_assoc true y z = refl
or_assoc false y z = refl

or_comm : (x y : Bool) → (x || y) ≡ (y || x)
or_comm true true = refl
or_comm true false = refl
or_comm false true = refl
or_comm false false = refl

-- the later group, where it is in one, and the later description, where it is stated
abbrev mix : Bool → Bool → Known → Known → Known
mix grouped stated x y = record {
  described = grouped_as (cond grouped y.described x.described) (cond stated y.described x.described);
  stated = x.stated || y.stated;
}

mix_assoc : (g h s t : Bool) (x y z : Known) → mix g s (mix h t x y) z ≡ mix (g || h) (s || t) x (mix g s y z)
mix_assoc true h true t x y z = rw (or_assoc x.stated y.stated z.stated) refl
mix_assoc true h false true x y z = rw (or_assoc x.stated y.stated z.stated) refl
mix_assoc true h false false x y z = rw (or_assoc x.stated y.stated z.stated) refl
mix_assoc false true true t x y z = rw (or_assoc x.stated y.stated z.stated) refl
mix_assoc false true false true x y z = rw (or_assoc x.stated y.stated z.stated) refl
mix_assoc false true false false x y z = rw (or_assoc x.stated y.stated z.stated) refl
mix_assoc false false true t x y z = rw (or_assoc x.stated y.stated z.stated) refl
mix_assoc false false false true x y z = rw (or_assoc x.stated y.stated z.stated) refl
mix_assoc false false false false x y z = rw (or_assoc x.stated y.stated z.stated) refl

is_grouped-over : (y z : Known) → is_grouped (over y z).described ≡ (is_grouped z.described || is_grouped y.described)
is_grouped-over y z = by (is_grouped z.described) refl
  where
    by : (g : Bool) → is_grouped z.described ≡ g → is_grouped (mix g z.stated y z).described ≡ (g || is_grouped y.described)
    by true e = e
    by false e = refl

pub over_assoc : (x y z : Known) → over (over x y) z ≡ over x (over y z)
over_assoc x y z =
    mix_assoc (is_grouped z.described) (is_grouped y.described) z.stated y.stated x y z
    ∙ (ap (λ g. mix g (z.stated || y.stated) x (over y z)) (sym (is_grouped-over y z)) ∙ ap (λ s. mix (is_grouped (over y z).described) s x (over y z)) (or_comm z.stated y.stated))

latest_assoc : {V : Type 0} (x y z : V) → latest (latest x y) z ≡ latest x (latest y z)
latest_assoc x y z = refl

-- ---- libraries

-- four lists as one library
abbrev library_of : Entries Known → ℕ → Entries (List ℕ) → Entries Pod → Contents
library_of functions groups defines pods = record { functions = functions; groups = groups; defines = defines; pods = pods }

pub merged_is : (e l : Contents) (functions : Entries Known) (groups : ℕ) (defines : Entries (List ℕ)) (pods : Entries Pod)
    → functions ≡ joined over e.functions (all_renumbered e.groups l.functions) → groups ≡ e.groups + l.groups → defines ≡ joined latest e.defines l.defines
    → pods ≡ joined latest e.pods l.pods → library_of functions groups defines pods ≡ merged e l
unfolding merged
merged_is e l functions groups defines pods f g d p = rw (f, g, d, p) refl

pub empty-merged : (l : Contents) → merged empty l ≡ l
unfolding merged
empty-merged l =
    rw (all-zero l.functions, none-joined over l.functions, none-joined latest l.defines, none-joined latest l.pods, zero-add l.groups) refl

pub merged-empty : (l : Contents) → merged l empty ≡ l
unfolding merged
merged-empty l =
    rw (joined-none over l.functions, joined-none latest l.defines, joined-none latest l.pods, add-zero l.groups) refl

pub merged_assoc : (a b c : Contents) → merged (merged a b) c ≡ merged a (merged b c)
unfolding merged
merged_assoc a b c =
    rw (
      joined_assoc over over_assoc a.functions (all_renumbered a.groups b.functions) (all_renumbered (a.groups + b.groups) c.functions),
      joined_assoc latest latest_assoc a.defines b.defines c.defines,
      joined_assoc latest latest_assoc a.pods b.pods c.pods,
      joined_each over (renumbered a.groups) (over_renumbered a.groups) b.functions (all_renumbered b.groups c.functions),
      all_twice a.groups b.groups c.functions,
      add_assoc a.groups b.groups c.groups,
    ) refl
