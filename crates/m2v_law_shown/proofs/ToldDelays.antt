-- No picture has another delay than the exact one of the account.
use Rattle.std.proofs.Common.{◌≡◌, ℕ, ◌+◌, ◌≤◌, List, [], ◌∷◌, ◌++◌, length, map, refl, sym, ap, subst, ◌∙◌, arith, Some}
use Rattle.std.proofs.lemmas.Bool.{eq-eqb}
use Rattle.std.proofs.lemmas.List.{length-map}
use Rattle.std.proofs.lemmas.List.Sums.{sum_by-append}
use Rattle.m2v_set.specs.declared.settings.Settings.{Settings}
use Rattle.m2v_set.specs.Rules.{Passes}
use Rattle.m2v_vbv.specs.Annex.{Start, Removal, removed}
use Rattle.m2v_rate.specs.Plans.{start_of}
use Rattle.m2v_enc_stream.specs.Streams.{Coded, at_start}
use Rattle.m2v_model.specs.Pieces.{pieces}
use Rattle.m2v_model.specs.Lawful.{Numbered}
use Rattle.m2v_model.specs.Buffering.{StreamAccount, sizes, bits_of_piece, code_bits, codes, exact_delay, exact_delays, exact_delays_from, other_delays}
use Rattle.m2v_enc_stream.specs.Sent.{SentPicture, Sent, removal_of, AreExact}
use Rattle.m2v_enc_stream.proofs.Exact.{stream_exact}
use Rattle.m2v_enc_stream.specs.Trees.{groups_of}
use Rattle.m2v_enc_stream.proofs.SliceUnits.{Spelled}
use Rattle.m2v_enc_stream.proofs.Follows.{stream_follows}
use Rattle.m2v_law_shown.specs.Accounts.{AreTold, account_told, delay_in}
use Rattle.m2v_law_shown.proofs.Accounts.{codes_are}
use Rattle.m2v_law_shown.proofs.SentPictures.{bits_of_sent, codes_of_sent, groups_begin}
use Rattle.m2v_law_shown.proofs.ToldAccounts.{account_sent, account_is, sizes_sent}

-- ---- lists

abbrev pub delays_of_sent : List SentPicture → List ℕ
delays_of_sent xs = map (λ (x : SentPicture). x.delay) xs

no_others : (ns : List Numbered) → other_delays ns (map delay_in ns) ≡ 0
unfolding other_delays
no_others [] = refl
no_others (n ∷ ns) = rw (eq-eqb (delay_in n) (delay_in n) refl, no_others ns) refl

heads : (a b : ℕ) (xs ys : List ℕ) → a ∷ xs ≡ b ∷ ys → (a ≡ b) × (xs ≡ ys)
heads a b xs ys e = (cc, cc)

-- ---- pieces and pictures side by side

no_more : (start : Start) (before : List Removal) (cs : List ℕ) → exact_delays_from start before cs [] ≡ []
unfolding exact_delays_from
no_more start before [] = refl
no_more start before (c ∷ cs) = refl

removed_with : (before : List Removal) (r : Removal) → removed (before ++ r ∷ []) ≡ removed before + r.bits
removed_with before r = omega (arith, sum_by-append (λ (t : Removal). t.bits) before (r ∷ []))

-- The pieces have the start codes of the pictures, and the sizes of these; what comes behind the last one doesn't matter.
exact_all : (start : Start) (xs : List SentPicture) (ps : List (List ℕ)) (ms : List ℕ) (before : List Removal) (at : ℕ)
    → map code_bits ps ≡ codes_of_sent xs ++ ms → sizes (length xs) (map bits_of_piece ps) ≡ bits_of_sent xs → at ≡ removed before
    → AreExact start before xs
    → exact_delays_from start before (codes at ps) (map removal_of xs) ≡ delays_of_sent xs
unfolding sizes codes exact_delays_from
exact_all start [] ps ms before at starts take is exact = no_more start before (codes at ps)
exact_all start (x ∷ xs) [] ms before at starts take is exact = absurd cc
exact_all start (x ∷ []) (p ∷ ps) ms before at starts take is exact =
    let code : code_bits p ≡ x.code = (heads (code_bits p) x.code (map code_bits ps) ms starts).0 in
    let place : at + code_bits p ≡ removed before + x.code = omega (arith, code, is) in
    ap (λ (ds : List ℕ). exact_delay start before (at + code_bits p) ∷ ds) (no_more start (before ++ removal_of x ∷ []) (codes (at + bits_of_piece p) ps))
    ∙ ap (λ (c : ℕ). exact_delay start before c ∷ []) place
    ∙ ap (λ (d : ℕ). d ∷ []) (sym exact.0.0)
exact_all start (x ∷ y ∷ xs) (p ∷ ps) ms before at starts take is exact =
    let both = heads (code_bits p) x.code (map code_bits ps) (codes_of_sent (y ∷ xs) ++ ms) starts in
    let code : code_bits p ≡ x.code = both.0 in
    let place : at + code_bits p ≡ removed before + x.code = omega (arith, code, is) in
    let sized = heads (bits_of_piece p) x.bits (sizes (length (y ∷ xs)) (map bits_of_piece ps)) (bits_of_sent (y ∷ xs)) take in
    let on : at + bits_of_piece p ≡ removed (before ++ removal_of x ∷ []) = omega (arith, sized.0, is, removed_with before (removal_of x)) in
    ap (λ (ds : List ℕ). exact_delay start before (at + code_bits p) ∷ ds)
    (exact_all start (y ∷ xs) ps ms (before ++ removal_of x ∷ []) (at + bits_of_piece p) both.1 sized.1 on exact.1)
    ∙ ap (λ (c : ℕ). exact_delay start before c ∷ delays_of_sent (y ∷ xs)) place
    ∙ ap (λ (d : ℕ). d ∷ delays_of_sent (y ∷ xs)) (sym exact.0.0)

-- ---- the stream

module _ (law : Spelled) (s : Settings) (frames : List (List ℕ)) (passes : Passes s) (some : 1 ≤ length frames) (few : length frames ≤ 999999) where
  starts_sent : map code_bits (pieces (Coded s frames)) ≡ codes_of_sent (Sent s frames) ++ 64 ∷ []
  starts_sent =
      codes_are law s frames passes some few
      ∙ ap (λ (cs : List ℕ). cs ++ 64 ∷ []) (sym (groups_begin s (groups_of s frames) (at_start s) (stream_follows s frames passes few)))

  sent_count : (ns : List Numbered) → map delay_in ns ≡ delays_of_sent (Sent s frames) → length ns ≡ length (Sent s frames)
  sent_count ns e =
      sym (length-map ns delay_in) ∙ ap length e ∙ length-map (Sent s frames) (λ (x : SentPicture). x.delay)

  -- the exact delays are those that are sent
  pub delays_are : (ns : List Numbered) → AreTold s frames ns → map delay_in ns ≡ delays_of_sent (Sent s frames)
      → exact_delays (pieces (Coded s frames)) (account_sent s frames) ≡ delays_of_sent (Sent s frames)
  delays_are ns told e =
      exact_all (start_of s) (Sent s frames) (pieces (Coded s frames)) (64 ∷ []) [] 0 starts_sent
      (subst (λ (n : ℕ). sizes n (map bits_of_piece (pieces (Coded s frames))) ≡ bits_of_sent (Sent s frames)) (sent_count ns e)
      (sizes_sent law s frames passes some few ns told)) refl (stream_exact s frames passes few)

  pub all_exact : (ns : List Numbered) → AreTold s frames ns → map delay_in ns ≡ delays_of_sent (Sent s frames)
      → (a : StreamAccount) → account_told s frames ns ≡ Some a → other_delays ns (exact_delays (pieces (Coded s frames)) a) ≡ 0
  all_exact ns told e a is =
      let same : account_sent s frames ≡ a = Some_is (sym (account_is law s frames passes some few ns told) ∙ is) in
      subst (λ (b : StreamAccount). other_delays ns (exact_delays (pieces (Coded s frames)) b) ≡ 0) same
      (ap (other_delays ns) (delays_are ns told e ∙ sym e) ∙ no_others ns)
    where
      Some_is : {b : StreamAccount} → Some (account_sent s frames) ≡ Some b → account_sent s frames ≡ b
      Some_is f = cc
