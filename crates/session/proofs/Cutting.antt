-- However an input is cut into chunks, the same is printed and left.
use Prim.Native.Nat.{ℕ}
use mathlib.Core.List.{List, [], ◌∷◌, ◌++◌, append_assoc}
use mathlib.Core.Path.{◌≡◌, refl, sym, ap, ◌∙◌}
use Rattle.ground.specs.Rows.{joined}
use Rattle.session.specs.Feeding.{Session, then_byte, byte_text, then_bytes, bytes_text, then_chunks, chunks_text}

-- Bytes and then more are all of them at once.
pub then_append : (s : Session) (input more : List ℕ) → then_bytes s (input ++ more) ≡ then_bytes (then_bytes s input) more
unfolding then_bytes
then_append s [] more = refl
then_append s (byte ∷ input) more = then_append (then_byte s byte) input more

pub text_append : (s : Session) (input more : List ℕ)
    → bytes_text s (input ++ more) ≡ bytes_text s input ++ bytes_text (then_bytes s input) more
unfolding bytes_text then_bytes
text_append s [] more = refl
text_append s (byte ∷ input) more =
    ap (λ (l : List ℕ). byte_text s byte ++ l) (text_append (then_byte s byte) input more)
    ∙ sym (append_assoc (byte_text s byte) (bytes_text (then_byte s byte) input) _)

-- So are chunks one after the other.
pub chunks_left : (s : Session) (chunks : List (List ℕ)) → then_chunks s chunks ≡ then_bytes s (joined chunks)
unfolding then_chunks then_bytes
chunks_left s [] = refl
chunks_left s (chunk ∷ chunks) = chunks_left (then_bytes s chunk) chunks ∙ sym (then_append s chunk (joined chunks))

pub chunks-text : (s : Session) (chunks : List (List ℕ)) → chunks_text s chunks ≡ bytes_text s (joined chunks)
unfolding chunks_text bytes_text
chunks-text s [] = refl
chunks-text s (chunk ∷ chunks) =
    ap (λ (l : List ℕ). bytes_text s chunk ++ l) (chunks-text (then_bytes s chunk) chunks)
    ∙ sym (text_append s chunk (joined chunks))
