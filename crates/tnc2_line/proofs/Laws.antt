-- Reading and writing are each other's opposites.
use Rattle.std.proofs.Common.{◌≡◌, ℕ, ◌<◌, ◌≤◌, Bool, true, false, cond, not, ◌&&◌, List, [], ◌∷◌, ◌++◌, map, length, Option, Some, None, Result, Ok, Err, refl, sym, ap, subst, ◌∙◌, leb, ltb, arith, append_assoc}
use Rattle.std.specs.Prelude.{count_by, IfOk, OnOk}
use Rattle.std.specs.List.{list_all, slice_split, flat_map, join_with_byte}
use Rattle.std.specs.Option.{ok_or}
use Rattle.std.proofs.lemmas.Bool.{and_parts, and_from, lt-ltb, leb-true, le-leb, ltb-true, ltb-false, le-ltb, eqb-true}
use Rattle.std.proofs.lemmas.List.Folds.{list_all-append}
use Rattle.std.proofs.lemmas.List.Splits.{join_with_byte-slice_split}
use Rattle.aprs_base.specs.Bytes.{is_call, is_inner, IsLine}
use Rattle.std.proofs.lemmas.List.{length-append}
use Rattle.aprs_base.specs.declared.packets.Via.{Via}
use Rattle.aprs_base.specs.PartsSeen.{PartsSeen}
use Rattle.tnc2_line.specs.Packet.{text_of, is_parts, IsParts, IsPacket, is_path, parts_of, head_of, path_of, vias_of, call_of, checked_path, checked_body, cut_at, is_colon, is_arrow, is_comma, is_element, has_no_star, names_construct, from_construct, with_comma, via_text}
use Rattle.aprs_base.specs.ResultSteps.{◌>>=◌}
use Rattle.tnc2_line.specs.Pieces.{Fills}
use Rattle.tnc2_line.specs.declared.reading.LineFault.{LineFault}
use Rattle.tnc2_line.specs.declared.reading.LineFault.TheVariants as fault
use Rattle.aprs_base.proofs.CallLemmas.{is_call_byte, each_weaker, call_bytes, no_line_end}
use Rattle.tnc2_line.proofs.Calls.{call_without, no_colon, no_arrow, no_comma}
use Rattle.tnc2_line.proofs.Cuts.{cut_there, cut_sides}
use Rattle.tnc2_line.proofs.Steps.{Head, with_arrow, with_body, with_cut, with_head, with_path, with_source}
use Rattle.tnc2_line.proofs.Paths.{vias_back, vias_gives, split_back, join_back, Follow}

-- a test that all bytes of calls, the comma and the star pass is passed by each byte of a path
module _ (test : ℕ → Bool) (calls : (b : ℕ) → is_call_byte b ≡ true → test b ≡ true) (comma : test 44 ≡ true) (star : test 42 ≡ true) where
  pub call_each : (call : List ℕ) → is_call call ≡ true → list_all test call ≡ true
  call_each call h = each_weaker is_call_byte test calls call (call_bytes call h)

  star_each : (b : Bool) → list_all test (cond b (42 ∷ []) []) ≡ true
  star_each true = and_from _ _ star refl
  star_each false = refl

  pub path_each : (vias : List Via) → list_all is_element vias ≡ true → list_all test (flat_map with_comma vias) ≡ true
  path_each [] h = refl
  path_each (via ∷ vias) h =
      let parts = and_parts _ _ h in
      let element = list_all-append test via.call (cond via.star (42 ∷ []) []) ∙ and_from _ _ (call_each via.call parts.0) (star_each via.star) in
      list_all-append test (44 ∷ via_text via) (flat_map with_comma vias) ∙ and_from _ _ (and_from _ _ comma element) (path_each vias parts.1)

-- ---- what parts are

pub record Sound (parts : PartsSeen) : Type 0 where
  pub source : is_call parts.source ≡ true
  pub dest : is_call parts.dest ≡ true
  pub path : is_path parts.vias ≡ true
  pub has_body : 1 ≤ length parts.body
  pub body : list_all is_inner parts.body ≡ true

pub sound_is : (parts : PartsSeen) → IsParts parts → Sound parts
unfolding is_parts
sound_is parts h =
    let a = and_parts _ (list_all is_inner parts.body) h in
    let b = and_parts _ (leb 1 (length parts.body)) a.0 in
    let c = and_parts _ (is_path parts.vias) b.0 in
    let d = and_parts (is_call parts.source) (is_call parts.dest) c.0 in
    record { source = d.0; dest = d.1; path = c.1; has_body = leb-true _ _ b.1; body = a.1 }

pub is_sound : (parts : PartsSeen) → Sound parts → IsParts parts
unfolding is_parts
is_sound parts s = and_from _ _ (and_from _ _ (and_from _ _ (and_from _ _ s.source s.dest) s.path) (le-leb _ _ s.has_body)) s.body

pub record GoodPath (vias : List Via) : Type 0 where
  pub few : length vias ≤ 32
  pub elements : list_all is_element vias ≡ true
  pub constructs : count_by names_construct vias ≤ 1
  pub stars : list_all has_no_star (from_construct vias) ≡ true

pub good_is : (vias : List Via) → is_path vias ≡ true → GoodPath vias
good_is vias h =
    let a = and_parts _ (list_all has_no_star (from_construct vias)) h in
    let b = and_parts _ (leb (count_by names_construct vias) 1) a.0 in
    let c = and_parts (leb (length vias) 32) (list_all is_element vias) b.0 in
    record { few = leb-true _ _ c.0; elements = c.1; constructs = leb-true _ _ b.1; stars = a.1 }

pub is_good : (vias : List Via) → GoodPath vias → is_path vias ≡ true
is_good vias g = and_from _ _ (and_from _ _ (and_from _ _ (le-leb _ _ g.few) g.elements) (le-leb _ _ g.constructs)) g.stars

-- ---- a text read

abbrev pub head_text : PartsSeen → List ℕ
head_text parts = parts.source ++ (62 ∷ (parts.dest ++ flat_map with_comma parts.vias))

pub text_is : (parts : PartsSeen) → text_of parts ≡ head_text parts ++ (58 ∷ parts.body)
unfolding text_of
text_is parts =
    ap (λ t. parts.source ++ (62 ∷ t)) (sym (append_assoc parts.dest (flat_map with_comma parts.vias) (58 ∷ parts.body)))
    ∙ sym (append_assoc parts.source (62 ∷ (parts.dest ++ flat_map with_comma parts.vias)) (58 ∷ parts.body))

head_each : (test : ℕ → Bool) (calls : (b : ℕ) → is_call_byte b ≡ true → test b ≡ true) (comma : test 44 ≡ true) (star : test 42 ≡ true) (arrow : test 62 ≡ true)
    (parts : PartsSeen) → Sound parts → list_all test (head_text parts) ≡ true
head_each test calls comma star arrow parts s =
    let path = path_each test calls comma star parts.vias (good_is parts.vias s.path).elements in
    let rest = list_all-append test parts.dest (flat_map with_comma parts.vias) ∙ and_from _ _ (call_each test calls comma star parts.dest s.dest) path in
    list_all-append test parts.source (62 ∷ (parts.dest ++ flat_map with_comma parts.vias)) ∙ and_from _ _ (call_each test calls comma star parts.source s.source) (and_from _ _ arrow rest)

pub text_each : (parts : PartsSeen) → IsParts parts → list_all is_inner (text_of parts) ≡ true
text_each parts h =
    let s = sound_is parts h in
    ap (list_all is_inner) (text_is parts) ∙ list_all-append is_inner (head_text parts) (58 ∷ parts.body)
    ∙ and_from _ _ (head_each is_inner no_line_end refl refl refl parts s) s.body

path_back : (parts : PartsSeen) → Sound parts → path_of (parts.dest ∷ map via_text parts.vias) ≡ Ok (parts.dest, parts.vias)
path_back parts s =
    let g = good_is parts.vias s.path in
    let follow : Follow [] parts.vias = record { few = omega (arith, g.few); elements = g.elements; stars = g.stars } in
    ap (λ b. cond b (Ok parts.dest) (Err fault.BadDest) >>= λ dest. vias_of [] (map via_text parts.vias) >>= λ vias. Ok (dest, vias)) s.dest
    ∙ ap (λ r. r >>= λ vias. Ok (parts.dest, vias)) (vias_back [] parts.vias follow)

constructs_back : (vias : List Via) → GoodPath vias → checked_path vias ≡ Ok vias
constructs_back vias g = ap (λ b. cond b (Err fault.TwoConstructs) (Ok vias)) (le-ltb 1 (count_by names_construct vias) g.constructs)

head_back : (parts : PartsSeen) → Sound parts → head_of (head_text parts) ≡ Ok (parts.source, parts.dest, parts.vias)
unfolding head_of
head_back parts s =
    let g = good_is parts.vias s.path in
    let cut = cut_there is_arrow parts.source 62 (parts.dest ++ flat_map with_comma parts.vias) (call_without is_arrow no_arrow parts.source s.source) refl in
    let pieces = split_back parts.dest parts.vias (call_without is_comma no_comma parts.dest s.dest) g.elements in
    rw (cut, s.source, pieces, path_back parts s, constructs_back parts.vias g) refl

pub parts_back : (parts : PartsSeen) → IsParts parts → parts_of (text_of parts) ≡ Ok parts
unfolding parts_of
parts_back parts h =
    let s = sound_is parts h in
    let cut = cut_there is_colon (head_text parts) 58 parts.body (head_each (λ b. not (is_colon b)) no_colon refl refl refl parts s) refl in
    let body : ltb 0 (length parts.body) ≡ true = lt-ltb _ _ (omega (arith, s.has_body)) in
    ap parts_of (text_is parts) ∙ rw (cut, head_back parts s, body) refl

-- ---- a text that reads

pub bind_ok : {E A B : Type 0} (r : Result A E) (f : A → Result B E) (y : B) → (r >>= f) ≡ Ok y → (x : A) × (r ≡ Ok x) × (f x ≡ Ok y)
bind_ok (Ok x) f y h = (x, refl, h)
bind_ok (Err e) f y h = cc

pub same_ok : {E A : Type 0} (x y : A) → ◌≡◌ {A = Result A E} (Ok x) (Ok y) → x ≡ y
same_ok x y h = cc

ok_or_ok : {A : Type 0} (o : Option A) (e : LineFault) (x : A) → ok_or o e ≡ Ok x → o ≡ Some x
ok_or_ok (Some z) e x h = let same : z ≡ x = cc in ap Some same
ok_or_ok None e x h = cc

pub checked : {E A : Type 0} (b : Bool) (x y : A) (e : E) → cond b (Ok x) (Err e) ≡ Ok y → (b ≡ true) × (x ≡ y)
checked true x y e h = (refl, cc)
checked false x y e h = cc

pub refused : {E A : Type 0} (b : Bool) (x y : A) (e : E) → cond b (Err e) (Ok x) ≡ Ok y → (b ≡ false) × (x ≡ y)
refused true x y e h = cc
refused false x y e h = (refl, cc)

-- a destination and a path that read, from the texts between the commas
path_gives : (texts : List (List ℕ)) (dest : List ℕ) (vias : List Via) → path_of texts ≡ Ok (dest, vias)
    → (texts ≡ dest ∷ map via_text vias) × (is_call dest ≡ true) × Follow [] vias
path_gives [] dest vias h = cc
path_gives (text ∷ texts) dest vias h =
    let first = bind_ok (call_of fault.BadDest text) (λ d. vias_of [] texts >>= λ vs. Ok (d, vs)) (dest, vias) h in
    let rest = bind_ok (vias_of [] texts) (λ vs. Ok (first.0, vs)) (dest, vias) first.2 in
    let call = checked (is_call text) text first.0 fault.BadDest first.1 in
    let more = vias_gives [] texts rest.0 (omega arith) rest.1 in
    let both = same_ok (first.0, rest.0) (dest, vias) rest.2 in
    let dest_is : first.0 ≡ dest = ap (λ p. p.0) both in
    let vias_is : rest.0 ≡ vias = ap (λ p. p.1) both in
    let same : more.0 ≡ vias = sym more.1.whole ∙ vias_is in
    let text_same : text ≡ dest = call.1 ∙ dest_is in (
      ap (λ t. t ∷ texts) text_same ∙ ap (λ ts. dest ∷ ts) (sym more.1.texts_are) ∙ ap (λ vs. dest ∷ map via_text vs) same,
      ap is_call (sym text_same) ∙ call.0,
      subst (λ vs. Follow [] vs) same more.1.follow,
    )

pub record HeadIs (head source dest : List ℕ) (vias : List Via) : Type 0 where
  pub text : head ≡ source ++ (62 ∷ (dest ++ flat_map with_comma vias))
  pub source_is : is_call source ≡ true
  pub dest_is : is_call dest ≡ true
  pub path : is_path vias ≡ true

same_head : (a c : List ℕ) (b d : List ℕ) (u v : List Via) → ◌≡◌ {A = Result Head LineFault} (Ok (a, b, u)) (Ok (c, d, v)) → (a ≡ c) × (b ≡ d) × (u ≡ v)
same_head a c b d u v h = let same = same_ok (a, b, u) (c, d, v) h in (ap (λ p. p.0) same, ap (λ p. p.1) same, ap (λ p. p.2) same)

head_from : (head source dest : List ℕ) (vias : List Via) (sides : List ℕ × List ℕ) (call : List ℕ) (path : List ℕ × List Via) (vs : List Via)
    → cut_at is_arrow head ≡ Some sides → call_of fault.BadSource sides.0 ≡ Ok call → path_of (slice_split is_comma sides.1) ≡ Ok path → checked_path path.1 ≡ Ok vs
    → (call ≡ source) × (path.0 ≡ dest) × (vs ≡ vias) → HeadIs head source dest vias
head_from head source dest vias sides call path vs cut called read once same =
    let whole = cut_sides is_arrow head sides.0 sides.1 cut in
    let arrow : whole.0 ≡ 62 = eqb-true _ _ whole.1 in
    let called_is = checked (is_call sides.0) sides.0 call fault.BadSource called in
    let gives = path_gives (slice_split is_comma sides.1) path.0 path.1 read in
    let once_is = refused (ltb 1 (count_by names_construct path.1)) path.1 vs fault.TwoConstructs once in
    let rest : sides.1 ≡ path.0 ++ flat_map with_comma path.1 =
    sym (join_with_byte-slice_split 44 sides.1) ∙ ap (join_with_byte 44) gives.0 ∙ join_back path.0 path.1 in
    let vias_same : path.1 ≡ vias = once_is.1 ∙ same.2 in
    let good : GoodPath path.1 = record { few = omega (arith, gives.2.few); elements = gives.2.elements; constructs = ltb-false _ _ once_is.0; stars = gives.2.stars } in
    record {
      text =
          whole.2 ∙ ap (λ c. sides.0 ++ c ∷ sides.1) arrow
          ∙ ap (λ t. t ++ (62 ∷ sides.1)) (called_is.1 ∙ same.0)
          ∙ ap (λ t. source ++ (62 ∷ t)) (rest ∙ ap (λ d. d ++ flat_map with_comma path.1) same.1 ∙ ap (λ vs. dest ++ flat_map with_comma vs) vias_same);
      source_is = ap is_call (sym (called_is.1 ∙ same.0)) ∙ called_is.0;
      dest_is = ap is_call (sym same.1) ∙ gives.1;
      path = ap is_path (sym vias_same) ∙ is_good path.1 good;
    }

head_gives : (head source dest : List ℕ) (vias : List Via) → head_of head ≡ Ok (source, dest, vias) → HeadIs head source dest vias
unfolding head_of
head_gives head source dest vias h =
    let a = bind_ok (ok_or (cut_at is_arrow head) fault.NoArrow) with_arrow (source, dest, vias) h in
    let b = bind_ok (call_of fault.BadSource a.0.0) (with_source a.0.1) (source, dest, vias) a.2 in
    let c = bind_ok (path_of (slice_split is_comma a.0.1)) (with_path b.0) (source, dest, vias) b.2 in
    let d = bind_ok (checked_path c.0.1) (λ vs. Ok (b.0, c.0.0, vs)) (source, dest, vias) c.2 in
    head_from head source dest vias a.0 b.0 c.0 d.0 (ok_or_ok (cut_at is_arrow head) fault.NoArrow a.0 a.1) b.1 c.1 d.1 (same_head b.0 source c.0.0 dest d.0 vias d.2)

-- ---- the line

parts_from : (line : List ℕ) (sides : List ℕ × List ℕ) (head : Head) (body : List ℕ) → list_all is_inner line ≡ true
    → cut_at is_colon line ≡ Some sides → head_of sides.0 ≡ Ok head → checked_body sides.1 ≡ Ok body
    → IsPacket line (record { source = head.0; dest = head.1; vias = head.2; body = body })
parts_from line sides head body inner cut front rest =
    let whole = cut_sides is_colon line sides.0 sides.1 cut in
    let colon : whole.0 ≡ 58 = eqb-true _ _ whole.1 in
    let line_is : line ≡ sides.0 ++ (58 ∷ sides.1) = whole.2 ∙ ap (λ c. sides.0 ++ c ∷ sides.1) colon in
    let body_is = checked (ltb 0 (length sides.1)) sides.1 body fault.NoBody rest in
    let head_is = head_gives sides.0 head.0 head.1 head.2 front in
    let inner_rest : list_all is_inner sides.1 ≡ true = (and_parts (list_all is_inner sides.0) (list_all is_inner (58 ∷ sides.1)) (sym (list_all-append is_inner sides.0 (58 ∷ sides.1)) ∙ ap (list_all is_inner) (sym line_is) ∙ inner)).1 in
    let parts : PartsSeen = record { source = head.0; dest = head.1; vias = head.2; body = body } in
    record {
      spelled = text_is parts ∙ ap (λ t. t ++ (58 ∷ body)) (sym head_is.text) ∙ ap (λ t. sides.0 ++ (58 ∷ t)) (sym body_is.1) ∙ sym line_is;
      sound = is_sound parts (record {
        source = head_is.source_is;
        dest = head_is.dest_is;
        path = head_is.path;
        has_body = let some : 0 < length sides.1 = ltb-true _ _ body_is.0 in omega (arith, ap length body_is.1);
        body = ap (list_all is_inner) (sym body_is.1) ∙ inner_rest;
      });
    }

pub parts_give : (line : List ℕ) (parts : PartsSeen) → list_all is_inner line ≡ true → parts_of line ≡ Ok parts → IsPacket line parts
unfolding parts_of
parts_give line parts inner h =
    let a = bind_ok (ok_or (cut_at is_colon line) fault.NoColon) with_cut parts h in
    let b = bind_ok (head_of a.0.0) (with_head a.0.1) parts a.2 in
    let c = bind_ok (checked_body a.0.1) (with_body b.0) parts b.2 in
    carried b.0 c.0 c.2 (parts_from line a.0 b.0 c.0 inner (ok_or_ok (cut_at is_colon line) fault.NoColon a.0 a.1) b.1 c.1)
  where
    carried : (head : Head) (body : List ℕ) → with_body head body ≡ Ok parts
        → IsPacket line (record { source = head.0; dest = head.1; vias = head.2; body = body }) → IsPacket line parts
    carried head body e packet =
        let same : record { source = head.0; dest = head.1; vias = head.2; body = body } ≡ parts = cc in
        subst (λ q. IsPacket line q) same packet

-- a line has one reading, and parts have one line
pub packet_reads : (line : List ℕ) (parts : PartsSeen) → IsPacket line parts → parts_of line ≡ Ok parts
packet_reads line parts p = ap parts_of (sym p.spelled) ∙ parts_back parts p.sound

inner_line : (line : List ℕ) → IsLine line → list_all is_inner line ≡ true
inner_line line h = (and_parts (leb 1 (length line) && leb (length line) 510) (list_all is_inner line) h).1

-- what is read from a line is its packet
pub packet_of : (line : List ℕ) (r : Result PartsSeen LineFault) → r ≡ parts_of line → IsLine line → IfOk r (λ parts. IsPacket line parts)
packet_of line (Ok parts) e h = parts_give line parts (inner_line line h) (sym e)
packet_of line (Err fault) e h = tt

-- and so are the parts that were filled
pub filled_sound : {X : Type 0} (r : Result X LineFault) (left : PartsSeen) (line : List ℕ) → Fills r left (parts_of line) → IsLine line → OnOk r (IsParts left)
filled_sound (Ok x) left line fills h = (packet_of line (Ok left) (sym fills) h).sound
filled_sound (Err fault) left line fills h = tt

-- the text of parts is a line, where it isn't too long
pub line_of_parts : (parts : PartsSeen) → IsParts parts → length (text_of parts) ≤ 510 → IsLine (text_of parts)
line_of_parts parts h short =
    let long = ap length (text_is parts) ∙ length-append (head_text parts) (58 ∷ parts.body) in
    and_from _ _ (and_from _ _ (le-leb 1 (length (text_of parts)) (omega (arith, long))) (le-leb (length (text_of parts)) 510 short)) (text_each parts h)
