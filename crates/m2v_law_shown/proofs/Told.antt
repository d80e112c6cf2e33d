-- Values of the pictures of groups, one behind another.
use Rattle.std.proofs.Common.{◌≡◌, ℕ, zero, suc, ◌+◌, ◌<◌, Bool, true, false, List, [], ◌∷◌, ◌++◌, length, map, refl, ap, ◌∙◌, arith}
use Rattle.std.specs.Prelude.{All}
use Rattle.std.specs.List.{range_with_len}
use Rattle.std.proofs.lemmas.List.{map-append, append-nil}
use Rattle.std.proofs.lemmas.List.Elements.{All-nil, All-cons, All-append}
use Rattle.m2v_plane.specs.Samples.{Samples}
use Rattle.m2v_set.specs.declared.settings.Settings.{Settings}
use Rattle.m2v_order.specs.Groups.{Group}
use Rattle.m2v_rate.specs.Plans.{Entries}
use Rattle.m2v_slice.specs.Books.{Book, CodedPicture, coded}
use Rattle.m2v_slice.specs.Conditions.{IsBook}
use Rattle.m2v_enc_stream.specs.Streams.{Progress, book_of, group_coded, pictures_text}
use Rattle.m2v_model.specs.Units.{Units}
use Rattle.m2v_enc_stream.proofs.PictureChains.{picture_units_of}
use Rattle.m2v_enc_stream.proofs.TreeGroups.{MayFollow, AllFollow, done_of, ledger_of, pictures_units, group_units_of, groups_units}
use Rattle.m2v_law_shown.specs.Texts.{in_group, in_groups}
use Rattle.m2v_law_shown.proofs.Groupings.{all_of, all_of_append}
use Rattle.m2v_law_shown.proofs.Runs.{range_more}

-- ---- numbers in turn

pub maps_range : {A C : Type 0} (h : A → C) (f : ℕ → A) (g : ℕ → C) (from n : ℕ) → ((p : ℕ) → p < from + n → h (f p) ≡ g p) → map h (map f (range_with_len from n)) ≡ map g (range_with_len from n)
maps_range h f g from zero each = refl
maps_range {A} {C} h f g from (suc n) each =
    ap (λ (c : C). c ∷ map h (map f (range_with_len (from + 1) n))) (each from (omega arith))
    ∙ ap (λ (cs : List C). g from ∷ cs) (maps_range h f g (from + 1) n (λ p lt. each p (omega (arith, lt))))

all_range : {A : Type 0} (P : A → Type 0) (f : ℕ → A) (from n : ℕ) → ((p : ℕ) → p < from + n → P (f p)) → All P (map f (range_with_len from n))
all_range P f from zero each = All-nil P
all_range P f from (suc n) each = All-cons P (f from) (map f (range_with_len (from + 1) n)) (each from (omega arith)) (all_range P f (from + 1) n (λ p lt. each p (omega (arith, lt))))

-- ---- values of pictures

-- a value of picture p of a group that is coded, the headers of which begin at a bit of the stream
abbrev pub Told : Type 0 → Type 0
Told A = Book → List CodedPicture → Entries → Bool → ℕ → ℕ → A

-- one value gives another, of each picture
abbrev pub Gives : {A C : Type 0} → (A → C) → Told A → Told C → Type 0
Gives h f g =
    (b : Book) → IsBook b → (l : Entries) (ends : Bool) (at p : ℕ) → p < length b.pictures
    → h (f b (coded b (length b.pictures)) l ends at p) ≡ g b (coded b (length b.pictures)) l ends at p

-- something holds of a value, of each picture
abbrev pub HoldsOf : {A : Type 0} → (A → Type 0) → Told A → Type 0
HoldsOf P f =
    (b : Book) → IsBook b → (l : Entries) (ends : Bool) (at p : ℕ) → p < length b.pictures
    → P (f b (coded b (length b.pictures)) l ends at p)

group_gives : {A C : Type 0} (h : A → C) (f : Told A) (g : Told C) → Gives h f g → (s : Settings) (x : Progress) (group : Group Samples) (ends : Bool) → MayFollow s x group ends
    → map h (in_group f s x group ends) ≡ in_group g s x group ends
unfolding in_group
group_gives h f g gives s x group ends may =
    let b = book_of s x group in
    let done = done_of s x group in
    let l = ledger_of s x group in
    let at = λ (p : ℕ). length x.text + length (pictures_text b done l ends (length x.text) p) in
    maps_range h (λ p. f b done l ends (at p) p) (λ p. g b done l ends (at p) p) 0 (length group.pictures)
    (λ p lt. gives b may.book l ends (at p) p (omega (arith, lt)))

pub groups_give : {A C : Type 0} (h : A → C) (f : Told A) (g : Told C) → Gives h f g → (s : Settings) (groups : List (Group Samples)) (x : Progress) → AllFollow s x groups
    → map h (in_groups f s x groups) ≡ in_groups g s x groups
unfolding in_groups AllFollow
groups_give h f g gives s [] x all = refl
groups_give h f g gives s (a ∷ []) x all = group_gives h f g gives s x a true all
groups_give {A} {C} h f g gives s (a ∷ c ∷ more) x all =
    map-append h (in_group f s x a false) (in_groups f s (group_coded s x a false) (c ∷ more))
    ∙ ap (λ (t : List C). t ++ map h (in_groups f s (group_coded s x a false) (c ∷ more))) (group_gives h f g gives s x a false all.0)
    ∙ ap (λ (t : List C). in_group g s x a false ++ t) (groups_give h f g gives s (c ∷ more) (group_coded s x a false) all.1)

group_holds : {A : Type 0} (P : A → Type 0) (f : Told A) → HoldsOf P f → (s : Settings) (x : Progress) (group : Group Samples) (ends : Bool) → MayFollow s x group ends
    → All P (in_group f s x group ends)
unfolding in_group
group_holds P f holds s x group ends may =
    let b = book_of s x group in
    let done = done_of s x group in
    let l = ledger_of s x group in
    let at = λ (p : ℕ). length x.text + length (pictures_text b done l ends (length x.text) p) in
    all_range P (λ p. f b done l ends (at p) p) 0 (length group.pictures) (λ p lt. holds b may.book l ends (at p) p (omega (arith, lt)))

pub groups_hold : {A : Type 0} (P : A → Type 0) (f : Told A) → HoldsOf P f → (s : Settings) (groups : List (Group Samples)) (x : Progress) → AllFollow s x groups
    → All P (in_groups f s x groups)
unfolding in_groups AllFollow
groups_hold P f holds s [] x all = All-nil P
groups_hold P f holds s (a ∷ []) x all = group_holds P f holds s x a true all
groups_hold P f holds s (a ∷ c ∷ more) x all =
    All-append P (in_group f s x a false) (in_groups f s (group_coded s x a false) (c ∷ more))
    (group_holds P f holds s x a false all.0) (groups_hold P f holds s (c ∷ more) (group_coded s x a false) all.1)

-- ---- units

abbrev pub units_at : Told Units
units_at b done l ends at p = picture_units_of b l ends at p

pictures_all : (b : Book) (done : List CodedPicture) (l : Entries) (ends : Bool) (at n : ℕ)
    → all_of (map (λ p. picture_units_of b l ends (at + length (pictures_text b done l ends at p)) p) (range_with_len 0 n)) ≡ pictures_units b done l ends at n
unfolding pictures_units all_of
pictures_all b done l ends at zero = refl
pictures_all b done l ends at (suc n) =
    let f : ℕ → Units = λ p. picture_units_of b l ends (at + length (pictures_text b done l ends at p)) p in
    ap all_of (range_more f n)
    ∙ all_of_append (map f (range_with_len 0 n)) (f n ∷ [])
    ∙ ap (λ (us : Units). all_of (map f (range_with_len 0 n)) ++ us) (append-nil (f n))
    ∙ ap (λ (us : Units). us ++ f n) (pictures_all b done l ends at n)

group_all : (s : Settings) (x : Progress) (g : Group Samples) (ends : Bool) → all_of (in_group units_at s x g ends) ≡ group_units_of s x g ends
unfolding in_group
group_all s x g ends = pictures_all (book_of s x g) (done_of s x g) (ledger_of s x g) ends (length x.text) (length g.pictures)

pub groups_all : (s : Settings) (groups : List (Group Samples)) (x : Progress) → all_of (in_groups units_at s x groups) ≡ groups_units s x groups
unfolding in_groups groups_units all_of
groups_all s [] x = refl
groups_all s (g ∷ []) x = group_all s x g true
groups_all s (g ∷ h ∷ more) x =
    all_of_append (in_group units_at s x g false) (in_groups units_at s (group_coded s x g false) (h ∷ more))
    ∙ ap (λ (us : Units). us ++ all_of (in_groups units_at s (group_coded s x g false) (h ∷ more))) (group_all s x g false)
    ∙ ap (λ (us : Units). group_units_of s x g false ++ us) (groups_all s (h ∷ more) (group_coded s x g false))
