-- The bits of the text are those that are removed.
use Rattle.std.proofs.Common.{◌≡◌, ℕ, zero, suc, ◌+◌, ◌<◌, ◌≤◌, ◌⊎◌, inl, inr, Bool, false, List, [], ◌∷◌, ◌++◌, length, refl, sym, ap, ◌∙◌, arith}
use Rattle.std.proofs.lemmas.List.{length-append}
use Rattle.std.proofs.lemmas.List.FromFn.{sum_by-map-range_with_len_more}
use Rattle.std.proofs.lemmas.List.Sums.{sum_by-append}
use Rattle.m2v_plane.specs.Samples.{Samples}
use Rattle.m2v_set.specs.declared.settings.Settings.{Settings}
use Rattle.m2v_vbv.specs.Annex.{Removal, removed}
use Rattle.m2v_order.specs.Groups.{Group}
use Rattle.m2v_rate.specs.Plans.{Entries}
use Rattle.m2v_rate.specs.Safety.{closed, removal_at, group_removals, after_groups, sent}
use Rattle.m2v_slice.specs.Books.{Book}
use Rattle.m2v_slice.specs.Conditions.{IsBook}
use Rattle.m2v_enc_stream.specs.Streams.{Progress, book_of, group_coded, groups_begun, picture_text, pictures_text}
use Rattle.m2v_enc_stream.specs.Removals.{coded_of, ledger_of, seen_of, groups_seen}
use Rattle.m2v_slice.proofs.Ledgers.{size_at}
use Rattle.m2v_enc_stream.proofs.Pictures.{picture_length, zeros_on}
use Rattle.m2v_enc_stream.proofs.Stands.{HasBook, HaveBooks, group_text_is}
use Rattle.m2v_enc_stream.proofs.Closed.{seen_length}
use Rattle.m2v_enc_stream.proofs.Groups.{group_closed, behind}

-- ---- pictures

-- a picture that isn't the last of all
pub picture_bits : (b : Book) → IsBook b → (ends : Bool) (at p : ℕ) → p < length b.pictures → (p + 1 < length b.pictures) ⊎ (ends ≡ false)
    → length (picture_text b (coded_of b) (ledger_of b) ends at p) ≡ (removal_at (ledger_of b) p).bits
picture_bits b h ends at p lt goes =
    omega (arith, picture_length b h (ledger_of b) ends at p lt, size_at b p lt, zeros_on b h ends p goes)

pub removed_more : (c : Entries) (n : ℕ) → removed (group_removals c (n + 1)) ≡ removed (group_removals c n) + (removal_at c n).bits
removed_more c n = sum_by-map-range_with_len_more (λ (r : Removal). r.bits) (removal_at c) 0 n n (omega arith)

-- some pictures, without the last of all
pub pictures_bits : (b : Book) → IsBook b → (ends : Bool) (at p : ℕ) → p ≤ length b.pictures → (p < length b.pictures) ⊎ (ends ≡ false)
    → length (pictures_text b (coded_of b) (ledger_of b) ends at p) ≡ removed (group_removals (ledger_of b) p)
unfolding pictures_text
pictures_bits b h ends at zero le goes = refl
pictures_bits b h ends at (suc p) le goes =
    let l = ledger_of b in
    let t = pictures_text b (coded_of b) l ends at p in
    let e : p + 1 ≡ suc p = omega arith in
    omega (
      arith,
      length-append t (picture_text b (coded_of b) l ends (at + length t) p),
      pictures_bits b h ends at p (omega (arith, le)) (inl (omega (arith, le))),
      picture_bits b h ends (at + length t) p (omega (arith, le)) (more goes),
      removed_more l p,
      ap (λ (n : ℕ). removed (group_removals l n)) e,
    )
  where
    more : (suc p < length b.pictures) ⊎ (ends ≡ false) → (p + 1 < length b.pictures) ⊎ (ends ≡ false)
    more (inl less) = inl (omega (arith, less))
    more (inr e) = inr e

-- ---- groups

-- a group that isn't the last one
pub group_bits : (s : Settings) (x : Progress) (g : Group Samples) → HasBook s x g
    → length (group_coded s x g false).text ≡ length x.text + removed (group_removals (closed x.ledger (seen_of (book_of s x g))) (length g.pictures))
group_bits s x g h =
    let b = book_of s x g in
    let t = pictures_text b (coded_of b) (ledger_of b) false (length x.text) (length b.pictures) in
    omega (
      arith,
      ap length (group_text_is s x g false),
      length-append x.text t,
      pictures_bits b h.book false (length x.text) (length b.pictures) (omega arith) (inr refl),
      ap (λ (l : Entries). removed (group_removals l (length g.pictures))) (group_closed s x g h),
    )

pub removed_both : (xs ys : List Removal) → removed (xs ++ ys) ≡ removed xs + removed ys
removed_both xs ys = sum_by-append (λ (r : Removal). r.bits) xs ys

-- what stands behind groups, none of which is the last of the stream
pub record Behind (s : Settings) (x : Progress) (gs : List (Group Samples)) : Type 0 where
  pub ledger : (groups_begun s x gs).ledger ≡ after_groups x.ledger (groups_seen s x gs)
  pub bits : length (groups_begun s x gs).text ≡ length x.text + removed (sent x.ledger (groups_seen s x gs))

pub behind_groups : (s : Settings) (gs : List (Group Samples)) (x : Progress) → HaveBooks s x gs → Behind s x gs
unfolding groups_begun groups_seen after_groups sent
behind_groups s [] x h = record { ledger = refl; bits = omega arith }
behind_groups s (g ∷ more) x h =
    let y = group_coded s x g false in
    let c = closed x.ledger (seen_of (book_of s x g)) in
    let rec = behind_groups s more y h.1 in
    let same = behind s x g h.0 in
    let gs = groups_seen s y more in
    let b = book_of s x g in
    let text : length (groups_begun s x (g ∷ more)).text ≡ length (groups_begun s y more).text = refl in
    let all : removed (sent x.ledger (groups_seen s x (g ∷ more))) ≡ removed (group_removals c (length (seen_of b)) ++ sent c gs) = refl in
    record {
      ledger = rec.ledger ∙ ap (λ (l : Entries). after_groups l gs) (sym same);
      bits = omega (
        arith,
        rec.bits,
        group_bits s x g h.0,
        ap (λ (l : Entries). removed (sent l gs)) same,
        removed_both (group_removals c (length (seen_of b))) (sent c gs),
        ap (λ (n : ℕ). removed (group_removals c n)) (seen_length b),
        text,
        all,
      );
    }
