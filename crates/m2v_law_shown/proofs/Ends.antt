-- The last picture has the sequence end code too.
use Rattle.std.proofs.Common.{◌≡◌, ℕ, suc, ◌+◌, ◌-◌, ◌<◌, Bool, true, false, List, [], ◌∷◌, ◌++◌, length, map, sum, refl, ap, ◌∙◌, arith}
use Rattle.std.specs.List.{range_with_len}
use Rattle.std.proofs.lemmas.List.{length-append}
use Rattle.std.proofs.lemmas.List.FromFn.{length-map-range_with_len}
use Rattle.m2v_plane.specs.Samples.{Samples}
use Rattle.m2v_set.specs.declared.settings.Settings.{Settings}
use Rattle.m2v_order.specs.Groups.{Group}
use Rattle.m2v_enc_stream.specs.Streams.{Progress, group_coded}
use Rattle.m2v_model.specs.Buffering.{sizes}
use Rattle.m2v_enc_stream.proofs.TreeGroups.{MayFollow, AllFollow}
use Rattle.m2v_law_shown.specs.Texts.{value_at, in_group, in_groups, bits_at, groups_taken}
use Rattle.m2v_law_shown.proofs.Runs.{range_more}

-- ---- lists

-- the last of some numbers is 32 more
unfoldable pub with_end : List ℕ → List ℕ
with_end [] = []
with_end (x ∷ []) = (x + 32) ∷ []
with_end (x ∷ y ∷ ys) = x ∷ with_end (y ∷ ys)

-- the last picture takes all that stands behind it
pub sizes_are : (xs : List ℕ) → sizes (length xs) (xs ++ 32 ∷ []) ≡ with_end xs
unfolding sizes with_end
sizes_are [] = refl
sizes_are (x ∷ []) = let e : sum (x ∷ 32 ∷ []) ≡ x + 32 = omega arith in ap (λ (n : ℕ). n ∷ []) e
sizes_are (x ∷ y ∷ ys) = ap (λ (ns : List ℕ). x ∷ ns) (sizes_are (y ∷ ys))

end_behind : (xs : List ℕ) (y : ℕ) (ys : List ℕ) → with_end (xs ++ y ∷ ys) ≡ xs ++ with_end (y ∷ ys)
unfolding with_end
end_behind [] y ys = refl
end_behind (x ∷ []) y ys = refl
end_behind (x ∷ z ∷ xs) y ys = ap (λ (ns : List ℕ). x ∷ ns) (end_behind (z ∷ xs) y ys)

pub end_append : (xs ys : List ℕ) → 0 < length ys → with_end (xs ++ ys) ≡ xs ++ with_end ys
end_append xs [] some = absurd (omega (arith, some))
end_append xs (y ∷ ys) some = end_behind xs y ys

-- ---- groups

group_some : (s : Settings) (x : Progress) (g : Group Samples) (ends : Bool) → MayFollow s x g ends → 0 < length (in_group bits_at s x g ends)
unfolding in_group
group_some s x g ends may =
    let some = may.book.group.picture in
    omega (arith, some, length-map-range_with_len (value_at bits_at s x g ends) 0 (length g.pictures))

pub groups_some : (s : Settings) (g : Group Samples) (more : List (Group Samples)) (x : Progress) → AllFollow s x (g ∷ more) → 0 < length (in_groups bits_at s x (g ∷ more))
unfolding in_groups AllFollow
groups_some s g [] x all = group_some s x g true all
groups_some s g (h ∷ more) x all =
    omega (arith, group_some s x g false all.0, length-append (in_group bits_at s x g false) (in_groups bits_at s (group_coded s x g false) (h ∷ more)))

group_end : (s : Settings) (x : Progress) (g : Group Samples) → MayFollow s x g true
    → with_end (in_group bits_at s x g true) ≡ map (value_at bits_at s x g true) (range_with_len 0 (length g.pictures - 1)) ++ (value_at bits_at s x g true (length g.pictures - 1) + 32) ∷ []
unfolding in_group with_end
group_end s x g may =
    let some = may.book.group.picture in
    let k = length g.pictures - 1 in
    let e : length g.pictures ≡ suc k = omega (arith, some) in
    let f : ℕ → ℕ = value_at bits_at s x g true in
    ap (λ (n : ℕ). with_end (map f (range_with_len 0 n))) e
    ∙ ap with_end (range_more f k)
    ∙ end_behind (map f (range_with_len 0 k)) (f k) []

pub groups_end : (s : Settings) (groups : List (Group Samples)) (x : Progress) → AllFollow s x groups → with_end (in_groups bits_at s x groups) ≡ groups_taken s x groups
unfolding in_groups groups_taken with_end AllFollow
groups_end s [] x all = refl
groups_end s (g ∷ []) x all = group_end s x g all
groups_end s (g ∷ h ∷ more) x all =
    let y = group_coded s x g false in
    end_append (in_group bits_at s x g false) (in_groups bits_at s y (h ∷ more)) (groups_some s h more y all.1)
    ∙ ap (λ (ns : List ℕ). in_group bits_at s x g false ++ ns) (groups_end s (h ∷ more) y all.1)
