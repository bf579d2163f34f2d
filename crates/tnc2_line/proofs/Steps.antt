-- The steps of the reading, put together.
use Rattle.std.proofs.Common.{◌≡◌, ℕ, List, [], ◌∷◌, Result, Ok, Err, refl, ap, ◌∙◌, sym}
use Rattle.std.specs.List.{slice_split}
use Rattle.std.specs.Option.{ok_or}
use Rattle.aprs_base.specs.declared.packets.Via.{Via}
use Rattle.aprs_base.specs.PartsSeen.{PartsSeen}
use Rattle.tnc2_line.specs.Packet.{call_of, checked_body, checked_path, cut_at, head_of, is_arrow, is_colon, is_comma, parts_of, path_of, vias_of}
use Rattle.aprs_base.specs.ResultSteps.{◌>>=◌}
use Rattle.tnc2_line.specs.Pieces.{Fills, path_at, with_vias}
use Rattle.tnc2_line.specs.declared.reading.LineFault.{LineFault}
use Rattle.tnc2_line.specs.declared.reading.LineFault.TheVariants as fault

abbrev pub Head : Type 0
Head = List ℕ × List ℕ × List Via

then_then : {A B C : Type 0} (r : Result A LineFault) (f : A → Result B LineFault) (g : B → Result C LineFault) → (r >>= f >>= g) ≡ (r >>= λ x. f x >>= g)
then_then (Ok x) f g = refl
then_then (Err e) f g = refl

-- ---- a head, from its cut and its calls

abbrev pub with_path : List ℕ → List ℕ × List Via → Result Head LineFault
with_path source path = checked_path path.1 >>= λ vias. Ok (source, path.0, vias)

abbrev pub with_source : List ℕ → List ℕ → Result Head LineFault
with_source text source = path_of (slice_split is_comma text) >>= with_path source

abbrev pub with_arrow : List ℕ × List ℕ → Result Head LineFault
with_arrow cut = call_of fault.BadSource cut.0 >>= with_source cut.1

abbrev pub with_dest : List ℕ → List (List ℕ) → Result (List ℕ) LineFault → Result Head LineFault
with_dest source texts dest = dest >>= λ call. with_vias source call texts

pub head_at : (head : List ℕ) (parts : List ℕ × List ℕ) (source text : List ℕ) (texts : List (List ℕ)) → ok_or (cut_at is_arrow head) fault.NoArrow ≡ Ok parts
    → call_of fault.BadSource parts.0 ≡ Ok source → text ∷ texts ≡ slice_split is_comma parts.1 → head_of head ≡ with_dest source texts (call_of fault.BadDest text)
unfolding head_of
head_at head parts source text texts cut first pieces =
    ap (λ r. r >>= with_arrow) cut ∙ ap (λ r. r >>= with_source parts.1) first ∙ ap (λ ts. path_of ts >>= with_path source) (sym pieces) ∙ called (call_of fault.BadDest text)
  where
    pathed : (call : List ℕ) (vias : Result (List Via) LineFault) → ((vias >>= λ path. Ok (call, path)) >>= with_path source) ≡ (vias >>= checked_path >>= λ some. Ok (source, call, some))
    pathed call vias = then_then vias (λ path. Ok (call, path)) (with_path source) ∙ sym (then_then vias checked_path (λ some. Ok (source, call, some)))

    called : (dest : Result (List ℕ) LineFault) → ((dest >>= λ call. vias_of [] texts >>= λ path. Ok (call, path)) >>= with_path source) ≡ with_dest source texts dest
    called (Ok call) = pathed call (vias_of [] texts)
    called (Err e) = refl

-- ---- the parts, from the cut, the head and the body

abbrev pub with_body : Head → List ℕ → Result PartsSeen LineFault
with_body head body = Ok (record { source = head.0; dest = head.1; vias = head.2; body = body })

abbrev pub with_head : List ℕ → Head → Result PartsSeen LineFault
with_head text head = checked_body text >>= with_body head

abbrev pub with_cut : List ℕ × List ℕ → Result PartsSeen LineFault
with_cut parts = head_of parts.0 >>= with_head parts.1

-- the head, where its path is read
abbrev pub headed : List ℕ → List ℕ → Result (List Via) LineFault → Result Head LineFault
headed source dest vias = vias >>= λ path. Ok (source, dest, path)

pub parts_at : (line text : List ℕ) (parts : List ℕ × List ℕ) (source dest : List ℕ) (texts : List (List ℕ)) (vias : Result (List Via) LineFault)
    → text ≡ line → ok_or (cut_at is_colon text) fault.NoColon ≡ Ok parts → head_of parts.0 ≡ with_vias source dest texts → path_at texts ≡ vias
    → (headed source dest vias >>= with_head parts.1) ≡ parts_of line
unfolding parts_of
parts_at line text parts source dest texts vias same cut head path =
    sym (
    ap (λ t. ok_or (cut_at is_colon t) fault.NoColon >>= with_cut) (sym same)
    ∙ ap (λ r. r >>= with_cut) cut
    ∙ ap (λ r. r >>= with_head parts.1) (head ∙ ap (headed source dest) path)
    )

-- the parts that are left where the body was filled
pub filled : {X : Type 0} (result : Result X LineFault) (left : List ℕ) (body : Result (List ℕ) LineFault) (head : Head) (read : Result PartsSeen LineFault)
    → Fills result left body → (body >>= with_body head) ≡ read → Fills result (record { source = head.0; dest = head.1; vias = head.2; body = left }) read
filled (Ok x) left body head read fills is = sym is ∙ ap (λ b. b >>= with_body head) fills
filled (Err why) left body head read fills is = sym is ∙ ap (λ b. b >>= with_body head) fills
