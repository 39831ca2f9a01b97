use Rattle.std.proofs.Common.{◌≡◌, ◌∙◌, ap, ℕ, List, [], ◌∷◌, ◌++◌, codes}
use Rattle.vx_message.specs.declared.frame.FrameMessage.{FrameMessage}
use Rattle.vx_frame_tests.proofs.Short.{three, headed, headed_short}
use Rattle.vx_frame_tests.proofs.written.headers_are_written.Goals as goal

pub is_written-requires : goal.is_written-requires
is_written-requires g c =
    let first : c.add.new.headers ≡ (codes "k", codes "2") ∷ [] = c.in_ok-add.ensures ∙ ap (λ (hs : List (List ℕ × List ℕ)). hs ++ (codes "k", codes "2") ∷ []) c.empty-headers.ensures in
    let second : c.add-2.new.headers ≡ (codes "k", codes "2") ∷ (codes "h", codes "1") ∷ [] = c.in_ok-add-2.ensures ∙ ap (λ (hs : List (List ℕ × List ℕ)). hs ++ (codes "h", codes "1") ∷ []) first in
    let all : c.add-3.new.headers ≡ three = c.in_ok-add-3.ensures ∙ ap (λ (hs : List (List ℕ × List ℕ)). hs ++ (codes "k", codes "3") ∷ []) second in
    headed_short c.message.result (c.message.ensures ∙ (λ i. record { address = codes "a"; headers = all i; body = c.null.ensures i }))
