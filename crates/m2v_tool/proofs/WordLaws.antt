-- What words mean, and that they have one meaning.
use Rattle.std.proofs.Common.{◌≡◌, ℕ, List, [], ◌∷◌, Option, Some, IfSome, refl, ap, subst, sym, ◌∙◌}
use Rattle.std.specs.Prelude.{codes, if◌then◌else◌}
use Rattle.std.specs.Str.{bytes_eq}
use Rattle.clap.specs.Walk.{Text}
use Rattle.m2v_y4m.specs.declared.header.Y4mHeader.{Y4mHeader}
use Rattle.m2v_tool.specs.declared.flat.FlatWords.{FlatWords}
use Rattle.m2v_tool.specs.declared.encode.EncodeWords.{EncodeWords}
use Rattle.m2v_audit.specs.declared.asked.Asked.{Asked}
use Rattle.m2v_tool.specs.declared.mend.MendWords.{MendWords}
use Rattle.m2v_tool.specs.declared.cut.CutWords.{CutWords}
use Rattle.m2v_tool.specs.declared.command.Command.{Command}
use Rattle.m2v_tool.specs.declared.command.Command.TheVariants.{Flat, Encode, Decode, Check, Audit, Mend, Make, Cut, Pack, Unpack, EncodeY4m}
use Rattle.m2v_tool.specs.EncodeWords.{encode_meant, words_of}
use Rattle.m2v_tool.specs.Decoding.{decode_meant}
use Rattle.m2v_tool.specs.Auditing.{audit_meant}
use Rattle.m2v_tool.specs.Mending.{list_named, mend_meant}
use Rattle.m2v_tool.specs.Making.{make_meant}
use Rattle.m2v_tool.specs.Cutting.{cut_meant}
use Rattle.m2v_tool.specs.Packing.{pack_meant}
use Rattle.m2v_tool.specs.Y4mWords.{y4m_meant}
use Rattle.m2v_tool.specs.Words.{Means, flat_meant}

-- ---- commands by their kind: a line a command in each definition

data Kind : Type 0 where
  flats : Kind
  encodes : Kind
  decodes : Kind
  checks : Kind
  audits : Kind
  mends : Kind
  makes : Kind
  cuts : Kind
  packs : Kind
  unpacks : Kind
  codes_texts : Kind

-- what the words of a command say
abbrev Payload : Kind → Type 0
Payload flats = FlatWords
Payload encodes = EncodeWords
Payload decodes = ℕ
Payload checks = Unit {0}
Payload audits = Asked
Payload mends = MendWords
Payload makes = ℕ
Payload cuts = CutWords
Payload packs = Y4mHeader
Payload unpacks = Unit {0}
Payload codes_texts = EncodeWords

-- a command's kind, and what its words say
abbrev parts : Command → (k : Kind) × Payload k
parts (Flat w) = (flats, w)
parts (Encode w) = (encodes, w)
parts (Decode workers) = (decodes, workers)
parts Check = (checks, tt)
parts (Audit w) = (audits, w)
parts (Mend w) = (mends, w)
parts (Make seed) = (makes, seed)
parts (Cut w) = (cuts, w)
parts (Pack h) = (packs, h)
parts Unpack = (unpacks, tt)
parts (EncodeY4m w) = (codes_texts, w)

abbrev kind_of : Command → Kind
kind_of c = (parts c).0

abbrev payload : (c : Command) → Payload (kind_of c)
payload c = (parts c).1

-- the kind by the word that names the command
abbrev kind_named : Text → Kind
kind_named name =
    if bytes_eq name (codes "flat") then flats
    else if bytes_eq name (codes "encode") then encodes
    else if bytes_eq name (codes "decode") then decodes
    else if bytes_eq name (codes "check") then checks
    else if bytes_eq name (codes "audit") then audits
    else if bytes_eq name (codes "mend") then mends
    else if bytes_eq name (codes "make") then makes
    else if bytes_eq name (codes "cut") then cuts
    else if bytes_eq name (codes "pack") then packs
    else if bytes_eq name (codes "unpack") then unpacks
    else codes_texts

by_name : (name : Text) (others : List Text) (c : Command) → Means (name ∷ others) c → kind_named name ≡ kind_of c
by_name name others (Flat w) m = ap kind_named m.0
by_name name others (Encode w) m = ap kind_named m.0
by_name name others (Decode workers) m = ap kind_named m.0
by_name name others Check m = ap kind_named m.0
by_name name others (Audit w) m = ap kind_named m.0
by_name name others (Mend w) m = ap kind_named m.0
by_name name others (Make seed) m = ap kind_named m.0
by_name name others (Cut w) m = ap kind_named m.0
by_name name others (Pack h) m = ap kind_named m.0
by_name name others Unpack m = ap kind_named m.0
by_name name others (EncodeY4m w) m = ap kind_named m.0

-- the command that says it
abbrev command_of : (k : Kind) → Payload k → Command
command_of flats w = Flat w
command_of encodes w = Encode w
command_of decodes workers = Decode workers
command_of checks u = Check
command_of audits w = Audit w
command_of mends w = Mend w
command_of makes seed = Make seed
command_of cuts w = Cut w
command_of packs h = Pack h
command_of unpacks u = Unpack
command_of codes_texts w = EncodeY4m w

again : (c : Command) → command_of (kind_of c) (payload c) ≡ c
again (Flat w) = refl
again (Encode w) = refl
again (Decode workers) = refl
again Check = refl
again (Audit w) = refl
again (Mend w) = refl
again (Make seed) = refl
again (Cut w) = refl
again (Pack h) = refl
again Unpack = refl
again (EncodeY4m w) = refl

-- the words say it
abbrev Says : (k : Kind) → List Text → Payload k → Type 0
Says flats others w = flat_meant others ≡ Some w
Says encodes others w = encode_meant others ≡ Some (words_of w)
Says decodes others workers = decode_meant others ≡ Some workers
Says checks others u = Unit {0}
Says audits others w = audit_meant others ≡ Some w
Says mends others w = mend_meant others ≡ Some (list_named w)
Says makes others seed = make_meant others ≡ Some seed
Says cuts others w = cut_meant others ≡ Some w
Says packs others h = pack_meant others ≡ Some h
Says unpacks others u = Unit {0}
Says codes_texts others w = y4m_meant others ≡ Some (words_of w)

said : (name : Text) (others : List Text) (c : Command) → Means (name ∷ others) c → Says (kind_of c) others (payload c)
said name others (Flat w) m = m.1
said name others (Encode w) m = m.1
said name others (Decode workers) m = m.1
said name others Check m = tt
said name others (Audit w) m = m.1
said name others (Mend w) m = m.1
said name others (Make seed) m = m.1
said name others (Cut w) m = m.1
said name others (Pack h) m = m.1
said name others Unpack m = tt
said name others (EncodeY4m w) m = m.1

-- ---- one meaning

one_some : {T : Type 0} (o : Option T) (x y : T) → o ≡ Some x → o ≡ Some y → x ≡ y
one_some o x y f g =
    let same : Some x ≡ Some y = sym f ∙ g in
    cc

-- What holds of a command that words mean holds of each one that they mean, where it speaks of what the words say alone.
module _ (P : Command → Type 0) (alike : (v w : EncodeWords) → words_of v ≡ words_of w → P (Encode v) → P (Encode w))
    (alike_list : (v w : MendWords) → list_named v ≡ list_named w → P (Mend v) → P (Mend w))
    (alike_text : (v w : EncodeWords) → words_of v ≡ words_of w → P (EncodeY4m v) → P (EncodeY4m w)) where
  one_payload : (k : Kind) (others : List Text) (x y : Payload k) → Says k others x → Says k others y → P (command_of k x) → P (command_of k y)
  one_payload flats others x y f g p = subst (λ (w : FlatWords). P (Flat w)) (one_some _ x y f g) p
  one_payload encodes others x y f g p = alike x y (one_some _ (words_of x) (words_of y) f g) p
  one_payload decodes others x y f g p = subst (λ (n : ℕ). P (Decode n)) (one_some _ x y f g) p
  one_payload checks others x y f g p = p
  one_payload audits others x y f g p = subst (λ (w : Asked). P (Audit w)) (one_some _ x y f g) p
  one_payload mends others x y f g p = alike_list x y (one_some _ (list_named x) (list_named y) f g) p
  one_payload makes others x y f g p = subst (λ (n : ℕ). P (Make n)) (one_some _ x y f g) p
  one_payload cuts others x y f g p = subst (λ (w : CutWords). P (Cut w)) (one_some _ x y f g) p
  one_payload packs others x y f g p = subst (λ (h : Y4mHeader). P (Pack h)) (one_some _ x y f g) p
  one_payload unpacks others x y f g p = p
  one_payload codes_texts others x y f g p = alike_text x y (one_some _ (words_of x) (words_of y) f g) p

  one_kind : (k j : Kind) (others : List Text) → k ≡ j → (x : Payload k) (y : Payload j) → Says k others x → Says j others y → P (command_of k x) → P (command_of j y)
  one_kind k j others same =
      subst (λ (i : Kind). (x : Payload k) (y : Payload i) → Says k others x → Says i others y → P (command_of k x) → P (command_of i y)) same
      (one_payload k others)

  pub one_meaning : (words : List Text) (c d : Command) → Means words c → Means words d → P c → P d
  one_meaning [] c d f g p = absurd f
  one_meaning (name ∷ others) c d f g p =
      subst P (again d)
      (one_kind (kind_of c) (kind_of d) others (sym (by_name name others c f) ∙ by_name name others d g) (payload c) (payload d)
      (said name others c f) (said name others d g) (subst P (sym (again c)) p))

-- the command that was read
pub means_of : (words : List Text) (read : Option Command) (c d : Command) → read ≡ Some c → c ≡ d → IfSome read (Means words) → Means words d
means_of words read c d some is means =
    subst (Means words) is (subst (λ (o : Option Command). IfSome o (Means words)) some means)
