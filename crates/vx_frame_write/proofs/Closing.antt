-- The text of an object, from the texts of its members as they are written.
use Rattle.std.proofs.Common.{◌≡◌, refl, sym, ◌∙◌, ap, ℕ, List, [], ◌∷◌, ◌++◌, Option, Some, None, append_assoc, append-nil, arith, zero}
use Rattle.std.specs.Prelude.{codes, flat_map, ◌+◌, ◌%◌, ◌^◌, ◌<◌, ◌≤◌, length, true, false}
use Rattle.std.specs.Fmt.{decimal, signed_decimal}
use Rattle.std.proofs.lemmas.Fmt.{decimal_by_steps}
use Rattle.std.proofs.lemmas.List.Concat.{flat_map-append}
use Rattle.std.proofs.lemmas.Bool.Decides.{nat_tests}
use Rattle.vx_data.specs.BodyText.{body_text, quoted, joined, member_texts, escaped}
use Rattle.vx_data.specs.Tree.{Tree, Members, no_members, member, object}
use Rattle.vx_data.specs.declared.ids.MessageId.{MessageId}
use Rattle.vx_message.specs.declared.Failure.{Failure}
use Rattle.vx_message.specs.declared.frame.FrameMessage.{FrameMessage}
use Rattle.vx_frame_write.specs.Outgoing.{reply_address, headers_tree, with_headers, with_reply, of_type, send_members, message_members, error_members, failure_members, kind_text}
use Rattle.vx_frame_write.specs.Written.{more_members, opened, numbered_reply}

-- ---- the closing brace

joined_texts : (k : List ℕ) (t : Tree) (ms : Members) → joined (member_texts (member k t ms)) ≡ quoted k ++ 58 ∷ (body_text t ++ more_members ms)
joined_texts k t no_members = ap (λ (xs : List ℕ). quoted k ++ 58 ∷ xs) (sym (append-nil (body_text t)))
joined_texts k t (member l u ms) =
    append_assoc (quoted k) (58 ∷ body_text t) (44 ∷ joined (member_texts (member l u ms)))
    ∙ ap (λ (xs : List ℕ). quoted k ++ 58 ∷ (body_text t ++ 44 ∷ xs)) (joined_texts l u ms)

pub closed : (ms : Members) → opened ms ++ 125 ∷ [] ≡ body_text (object ms)
closed no_members = refl
closed (member k t ms) = ap (λ (xs : List ℕ). 123 ∷ (xs ++ 125 ∷ [])) (sym (joined_texts k t ms))

-- ---- members that may be left out

one_more : (k t others : List ℕ) → 44 ∷ (k ++ 58 ∷ (t ++ others)) ≡ (44 ∷ (k ++ 58 ∷ (t ++ []))) ++ others
one_more k t others = ap (λ (xs : List ℕ). 44 ∷ xs)
    (ap (λ (xs : List ℕ). k ++ 58 ∷ (xs ++ others)) (sym (append-nil t)) ∙ sym (append_assoc k (58 ∷ (t ++ [])) others))

pub more_reply : (reply : Option MessageId) (others : Members) → more_members (with_reply reply others) ≡ more_members (with_reply reply no_members) ++ more_members others
more_reply None others = refl
more_reply (Some id) others = one_more (quoted (codes "replyAddress")) (quoted (reply_address id)) (more_members others)

pub more_headers : (headers : List (List ℕ × List ℕ)) (others : Members) → more_members (with_headers headers others) ≡ more_members (with_headers headers no_members) ++ more_members others
more_headers [] others = refl
more_headers (pair ∷ pairs) others = one_more (quoted (codes "headers")) (body_text (headers_tree (pair ∷ pairs))) (more_members others)

-- ---- messages

message_front : (address body more : List ℕ) → codes "{\"address\":" ++ (address ++ (codes ",\"body\":" ++ (body ++ more)))
    ≡ 123 ∷ (quoted (codes "address") ++ 58 ∷ (address ++ 44 ∷ (quoted (codes "body") ++ 58 ∷ (body ++ more))))
unfolding escaped
message_front address body more = refl

chain : (old a b c d e f : List ℕ) → (((((old ++ a) ++ b) ++ c) ++ d) ++ e) ++ f ≡ old ++ (a ++ (b ++ (c ++ (d ++ (e ++ f)))))
chain old a b c d e f = simp append_assoc

pub message_written : (message : FrameMessage) (reply : Option MessageId) (old : List ℕ)
    → (((((old ++ codes "{\"address\":") ++ quoted message.address) ++ codes ",\"body\":") ++ body_text message.body) ++ more_members (with_headers message.headers no_members)) ++ more_members (with_reply reply no_members)
    ≡ old ++ opened (message_members message reply no_members)
message_written message reply old =
    chain old (codes "{\"address\":") (quoted message.address) (codes ",\"body\":") (body_text message.body) (more_members (with_headers message.headers no_members)) (more_members (with_reply reply no_members))
    ∙ ap (λ (xs : List ℕ). old ++ (codes "{\"address\":" ++ (quoted message.address ++ (codes ",\"body\":" ++ (body_text message.body ++ xs))))) (sym (more_headers message.headers (with_reply reply no_members)))
    ∙ ap (λ (xs : List ℕ). old ++ xs) (message_front (quoted message.address) (body_text message.body) (more_members (with_headers message.headers (with_reply reply no_members))))

regrouped : (k a l b h more : List ℕ) → 123 ∷ (k ++ 58 ∷ (a ++ 44 ∷ (l ++ 58 ∷ (b ++ h)))) ++ more ≡ 123 ∷ (k ++ 58 ∷ (a ++ 44 ∷ (l ++ 58 ∷ (b ++ (h ++ more)))))
regrouped k a l b h more = simp append_assoc

-- what a message and a reply share, and then the other members and the brace
pub message_closed : (message : FrameMessage) (reply : Option MessageId) (others : Members) (old : List ℕ) → (old ++ opened (message_members message reply no_members)) ++ (more_members others ++ 125 ∷ [])
    ≡ old ++ body_text (object (message_members message reply others))
message_closed message reply others old =
    let tail : more_members (with_headers message.headers (with_reply reply no_members)) ++ more_members others ≡ more_members (with_headers message.headers (with_reply reply others)) =
    ap (λ (xs : List ℕ). xs ++ more_members others) (more_headers message.headers (with_reply reply no_members))
    ∙ append_assoc (more_members (with_headers message.headers no_members)) (more_members (with_reply reply no_members)) (more_members others)
    ∙ ap (λ (xs : List ℕ). more_members (with_headers message.headers no_members) ++ xs) (sym (more_reply reply others))
    ∙ sym (more_headers message.headers (with_reply reply others)) in
    append_assoc old (opened (message_members message reply no_members)) (more_members others ++ 125 ∷ [])
    ∙ ap (λ (xs : List ℕ). old ++ xs) (sym (append_assoc (opened (message_members message reply no_members)) (more_members others) (125 ∷ [])))
    ∙ ap (λ (xs : List ℕ). old ++ (xs ++ 125 ∷ []))
    (regrouped (quoted (codes "address")) (quoted message.address) (quoted (codes "body")) (body_text message.body) (more_members (with_headers message.headers (with_reply reply no_members))) (more_members others)
    ∙ ap (λ (xs : List ℕ). 123 ∷ (quoted (codes "address") ++ 58 ∷ (quoted message.address ++ 44 ∷ (quoted (codes "body") ++ 58 ∷ (body_text message.body ++ xs))))) tail)
    ∙ ap (λ (xs : List ℕ). old ++ xs) (closed (message_members message reply others))

-- ---- errors

pub error_written : (error old : List ℕ) → ((old ++ codes "{\"message\":") ++ quoted error) ++ codes ",\"type\":\"err\"}" ≡ old ++ body_text (object (error_members error))
unfolding escaped
error_written error old =
    append_assoc (old ++ codes "{\"message\":") (quoted error) (codes ",\"type\":\"err\"}")
    ∙ append_assoc old (codes "{\"message\":") (quoted error ++ codes ",\"type\":\"err\"}")
    ∙ ap (λ (xs : List ℕ). old ++ (codes "{\"message\":" ++ xs)) (sym (append_assoc (quoted error) (codes ",\"type\":\"err\"") (125 ∷ [])))
    ∙ ap (λ (xs : List ℕ). old ++ xs) (closed (error_members error))

long_chain : (old a b c d e f g h i : List ℕ) → ((((((((old ++ a) ++ b) ++ c) ++ d) ++ e) ++ f) ++ g) ++ h) ++ i ≡ old ++ (a ++ (b ++ (c ++ (d ++ (e ++ (f ++ (g ++ (h ++ i))))))))
long_chain old a b c d e f g h i = simp append_assoc

failure_closed : (address code kind error : List ℕ) → codes "{\"address\":" ++ (address ++ (codes ",\"failureCode\":" ++ (code ++ (codes ",\"failureType\":" ++ (kind ++ (codes ",\"message\":" ++ (error ++ codes ",\"type\":\"err\"}")))))))
    ≡ (codes "{\"address\":" ++ (address ++ (codes ",\"failureCode\":" ++ (code ++ (codes ",\"failureType\":" ++ (kind ++ (codes ",\"message\":" ++ (error ++ codes ",\"type\":\"err\"")))))))) ++ 125 ∷ []
failure_closed address code kind error = simp append_assoc

failure_opened : (address : List ℕ) (failure : Failure) → codes "{\"address\":" ++ (quoted address ++ (codes ",\"failureCode\":" ++ (signed_decimal failure.code ++ (codes ",\"failureType\":" ++ (quoted (kind_text failure.kind) ++ (codes ",\"message\":" ++ (quoted failure.text ++ codes ",\"type\":\"err\"")))))))
    ≡ opened (failure_members address failure)
unfolding escaped
failure_opened address failure = refl

pub failure_written : (address : List ℕ) (failure : Failure) (old : List ℕ)
    → ((((((((old ++ codes "{\"address\":") ++ quoted address) ++ codes ",\"failureCode\":") ++ signed_decimal failure.code) ++ codes ",\"failureType\":") ++ quoted (kind_text failure.kind)) ++ codes ",\"message\":") ++ quoted failure.text) ++ codes ",\"type\":\"err\"}"
    ≡ old ++ body_text (object (failure_members address failure))
failure_written address failure old =
    long_chain old (codes "{\"address\":") (quoted address) (codes ",\"failureCode\":") (signed_decimal failure.code) (codes ",\"failureType\":") (quoted (kind_text failure.kind)) (codes ",\"message\":") (quoted failure.text) (codes ",\"type\":\"err\"}")
    ∙ ap (λ (xs : List ℕ). old ++ xs) (failure_closed (quoted address) (signed_decimal failure.code) (quoted (kind_text failure.kind)) (quoted failure.text)
    ∙ ap (λ (xs : List ℕ). xs ++ 125 ∷ []) (failure_opened address failure)
    ∙ closed (failure_members address failure))

-- ---- what stands in the program

pub pong_written : codes "{\"type\":\"pong\"}" ≡ body_text (object (of_type (codes "pong")))
unfolding escaped
pong_written = refl

pub sent_written : codes ",\"send\":true,\"type\":\"message\"}" ≡ more_members (send_members false) ++ 125 ∷ []
unfolding escaped
sent_written = refl

pub published_written : codes ",\"send\":false,\"type\":\"message\"}" ≡ more_members (send_members true) ++ 125 ∷ []
unfolding escaped
published_written = refl

pub type_written : codes ",\"type\":\"message\"}" ≡ more_members (of_type (codes "message")) ++ 125 ∷ []
unfolding escaped
type_written = refl

-- ---- the address of a reply

escaped_digit : (b : ℕ) → 48 ≤ b → b ≤ 57 → escaped b ≡ b ∷ []
unfolding escaped
escaped_digit b low high = grind (arith, nat_tests)

escaped_decimal : (n : ℕ) → n < 2 ^ 64 → flat_map escaped (decimal n) ≡ decimal n
escaped_decimal n small = decimal_by_steps (λ n ds. flat_map escaped ds ≡ ds)
    (λ n few. ap (λ (xs : List ℕ). xs ++ []) (escaped_digit (48 + n) (omega arith) (omega arith)))
    (λ n ds many h. flat_map-append escaped ds ((48 + n % 10) ∷ []) ∙ (λ i. h i ++ ap (λ (xs : List ℕ). xs ++ []) (escaped_digit (48 + n % 10) (omega arith) (omega arith)) i))
    n small

reply_text : (n : ℕ) → n < 2 ^ 64 → codes ",\"replyAddress\":\"__vertx.reply." ++ (decimal n ++ codes "\"") ≡ numbered_reply n
unfolding escaped
reply_text n small =
    ap (λ (xs : List ℕ). codes ",\"replyAddress\":\"__vertx.reply." ++ xs) (sym (append-nil (decimal n ++ codes "\"")))
    ∙ ap (λ (xs : List ℕ). 44 ∷ (quoted (codes "replyAddress") ++ 58 ∷ ((34 ∷ (xs ++ 34 ∷ [])) ++ [])))
    (sym (flat_map-append escaped (codes "__vertx.reply.") (decimal n) ∙ ap (λ (xs : List ℕ). codes "__vertx.reply." ++ xs) (escaped_decimal n small)))

pub reply_written : (n : ℕ) (old : List ℕ) → n < 2 ^ 64 → ((old ++ codes ",\"replyAddress\":\"__vertx.reply.") ++ decimal n) ++ codes "\"" ≡ old ++ numbered_reply n
reply_written n old small =
    append_assoc (old ++ codes ",\"replyAddress\":\"__vertx.reply.") (decimal n) (codes "\"")
    ∙ append_assoc old (codes ",\"replyAddress\":\"__vertx.reply.") (decimal n ++ codes "\"")
    ∙ ap (λ (xs : List ℕ). old ++ xs) (reply_text n small)

-- ---- headers

headers_front : (text : List ℕ) → codes ",\"headers\":" ++ text ≡ 44 ∷ (quoted (codes "headers") ++ 58 ∷ text)
unfolding escaped
headers_front text = refl

pub headers_written : (pairs : List (List ℕ × List ℕ)) (named : Members) (old : List ℕ) → 0 < length pairs → object named ≡ headers_tree pairs → (old ++ codes ",\"headers\":") ++ body_text (object named) ≡ old ++ more_members (with_headers pairs no_members)
headers_written [] named old some are = absurd (omega arith)
headers_written (pair ∷ pairs) named old some are =
    append_assoc old (codes ",\"headers\":") (body_text (object named))
    ∙ ap (λ (t : Tree). old ++ (codes ",\"headers\":" ++ body_text t)) are
    ∙ ap (λ (xs : List ℕ). old ++ xs) (headers_front (body_text (headers_tree (pair ∷ pairs))) ∙ ap (λ (xs : List ℕ). 44 ∷ (quoted (codes "headers") ++ 58 ∷ xs)) (sym (append-nil (body_text (headers_tree (pair ∷ pairs))))))
