-- The compact text of a value is no longer than a text in which the value stands.
use Rattle.std.proofs.Common.{◌≡◌, ◌≢◌, refl, sym, ap, ℕ, ◌+◌, ◌-◌, ◌/◌, ◌%◌, ◌<◌, ◌≤◌, ◌==◌, ◌||◌, List, [], ◌∷◌, ◌++◌, length, length-append, flat_map, Bool, true, false, cond, codes, nat_lt, Option, Some, None, Ordering, Less, Equal, Greater, nat_cmp, arith, subst}
use Rattle.std.specs.Char.{encode_utf8}
use Rattle.std.specs.Cmp.Lexicographic.{slice_cmp}
use Rattle.std.specs.List.{AllByRecursion}
use Rattle.std.specs.Ordering.{match_ordering}
use Rattle.std.proofs.lemmas.Bool.Decides.{nat_tests}
use Rattle.std.proofs.lemmas.List.Concat.{flat_map-append}
use Rattle.vx_data.specs.Tree.{Tree, null, boolean, int, text, bytes, array, object, Elements, no_elements, element, Members, no_members, member}
use Rattle.vx_data.specs.Bodies.{put}
use Rattle.vx_data.specs.BodyText.{body_text, element_texts, member_texts, joined, quoted, escaped, hex_byte}
use Rattle.vx_data.proofs.Lengths.{parts, joined_length}
use Rattle.vx_json.specs.Grammar.{IsPadded, IsPair, IsValue, AreElements, AreMoreElements, AreMembers, AreMoreMembers, settled, settled_elements, settled_members}
use Rattle.vx_json.specs.Texts.{unescaped, value, joint, Piece, plain, short, code, pair, spelling, meaning, IsPiece, IsQuoted}
use Rattle.vx_json.proofs.Joining.{more_texts, joined_more}

-- ---- bytes of texts

of_two : (P : List ℕ → Type 0) (test : Bool) (x y : List ℕ) → P x → P y → P (cond test x y)
of_two P true x y px py = px
of_two P false x y px py = py

escaped_plain : (b : ℕ) → 32 ≤ b → b ≢ 34 → b ≢ 92 → escaped b ≡ b ∷ []
unfolding escaped
escaped_plain b large quote back = grind (arith, nat_tests)

escaped_high : (b : ℕ) → 128 ≤ b → escaped b ≡ b ∷ []
escaped_high b high = escaped_plain b (omega arith) (λ is. absurd (omega arith)) (λ is. absurd (omega arith))

-- a byte that has an escape of one letter
either : {R : Type 0} (test : Bool) → (test ≡ true → R) → (test ≡ false → R) → R
either true here there = here refl
either false here there = there refl

differs : (b c : ℕ) → (b == c) ≡ false → b ≢ c
differs b c h = grind (arith, nat_tests)

equal_to : (b c : ℕ) → (b == c) ≡ true → c ≡ b
equal_to b c h = grind (arith, nat_tests)

IsShort : ℕ → Type 0
IsShort b = length (escaped b) ≤ 2

short_34 : IsShort 34
unfolding IsShort escaped
short_34 = omega arith

short_92 : IsShort 92
unfolding IsShort escaped
short_92 = omega arith

short_8 : IsShort 8
unfolding IsShort escaped
short_8 = omega arith

short_9 : IsShort 9
unfolding IsShort escaped
short_9 = omega arith

short_10 : IsShort 10
unfolding IsShort escaped
short_10 = omega arith

short_12 : IsShort 12
unfolding IsShort escaped
short_12 = omega arith

short_13 : IsShort 13
unfolding IsShort escaped
short_13 = omega arith

short_plain : (b : ℕ) → 32 ≤ b → b ≢ 34 → b ≢ 92 → IsShort b
unfolding IsShort
short_plain b large quote back = omega (arith, ap length (escaped_plain b large quote back))

short_high : (b : ℕ) → 32 ≤ b → IsShort b
short_high b large =
    either (b == 34) (λ is. subst IsShort (equal_to b 34 is) short_34) (λ quote.
    either (b == 92) (λ is. subst IsShort (equal_to b 92 is) short_92) (λ back. short_plain b large (differs b 34 quote) (differs b 92 back)))

-- an escape of a code, where there is no other
escaped_control : (b : ℕ) → b ≢ 34 → b ≢ 92 → b ≢ 8 → b ≢ 9 → b ≢ 10 → b ≢ 12 → b ≢ 13 → b < 32 → escaped b ≡ codes "\\u00" ++ hex_byte b
unfolding escaped
escaped_control b h1 h2 h3 h4 h5 h6 h7 small = grind (arith, nat_tests)

IsFew : ℕ → Type 0
IsFew b = length (escaped b) ≤ 6

few : (b : ℕ) → IsShort b → IsFew b
unfolding IsFew IsShort
few b h = omega (arith, h)

control_few : (b : ℕ) → b ≢ 34 → b ≢ 92 → b ≢ 8 → b ≢ 9 → b ≢ 10 → b ≢ 12 → b ≢ 13 → b < 32 → IsFew b
unfolding IsFew
control_few b h1 h2 h3 h4 h5 h6 h7 small = omega (arith, ap length (escaped_control b h1 h2 h3 h4 h5 h6 h7 small))

low_few : (b : ℕ) → b < 32 → IsFew b
low_few b small =
    either (b == 8) (λ is. few b (subst IsShort (equal_to b 8 is) short_8)) (λ n8.
    either (b == 9) (λ is. few b (subst IsShort (equal_to b 9 is) short_9)) (λ n9.
    either (b == 10) (λ is. few b (subst IsShort (equal_to b 10 is) short_10)) (λ n10.
    either (b == 12) (λ is. few b (subst IsShort (equal_to b 12 is) short_12)) (λ n12.
    either (b == 13) (λ is. few b (subst IsShort (equal_to b 13 is) short_13)) (λ n13.
    control_few b (λ is. absurd (omega arith)) (λ is. absurd (omega arith)) (differs b 8 n8) (differs b 9 n9) (differs b 10 n10) (differs b 12 n12) (differs b 13 n13) small)))))

below : (b : ℕ) → nat_lt b 32 ≡ true → b < 32
below b h = grind (arith, nat_tests)

at_least : (b : ℕ) → nat_lt b 32 ≡ false → 32 ≤ b
at_least b h = grind (arith, nat_tests)

all_few : (b : ℕ) → IsFew b
all_few b = either (nat_lt b 32) (λ low. low_few b (below b low)) (λ high. few b (short_high b (at_least b high)))

escaped_few : (b : ℕ) → length (escaped b) ≤ 6
unfolding IsFew
escaped_few b = all_few b

printable : (e : ℕ) → ((e == 34) || (e == 92) || (e == 47)) ≡ true → 32 ≤ e
printable e h = grind (arith, nat_tests)

first_letter : {R : Type 0} (test : Bool) (x b : ℕ) (more : Option ℕ) → cond test (Some x) more ≡ Some b → (test ≡ true → x ≡ b → R) → (more ≡ Some b → R) → R
first_letter true x b more h here there = here refl (cc)
first_letter false x b more h here there = there h

none_is_not_some : {R : Type 0} (b : ℕ) → None ≡ Some b → R
none_is_not_some b h = absurd (cc)

short_letter : (e b : ℕ) → unescaped e ≡ Some b → IsShort b
short_letter e b h =
    first_letter ((e == 34) || (e == 92) || (e == 47)) e b _ h (λ test is. subst IsShort is (short_high e (printable e test))) (λ h.
    first_letter (e == 98) 8 b _ h (λ test is. subst IsShort is short_8) (λ h.
    first_letter (e == 102) 12 b _ h (λ test is. subst IsShort is short_12) (λ h.
    first_letter (e == 110) 10 b _ h (λ test is. subst IsShort is short_10) (λ h.
    first_letter (e == 114) 13 b _ h (λ test is. subst IsShort is short_13) (λ h.
    first_letter (e == 116) 9 b _ h (λ test is. subst IsShort is short_9) (λ h. none_is_not_some b h))))))

-- bytes that an escape of a code stands for
high_bytes : (bs : List ℕ) → AllByRecursion (λ b. 128 ≤ b) bs → length (flat_map escaped bs) ≡ length bs
high_bytes [] all = refl
high_bytes (b ∷ bs) all = omega (arith, length-append (escaped b) (flat_map escaped bs), ap length (escaped_high b all.0), high_bytes bs all.1)

one_byte : (b : ℕ) → length (flat_map escaped (b ∷ [])) ≤ 6
one_byte b = omega (arith, length-append (escaped b) [], escaped_few b)

few_high : (bs : List ℕ) → length bs ≤ 6 → AllByRecursion (λ b. 128 ≤ b) bs → length (flat_map escaped bs) ≤ 6
few_high bs few all = omega (arith, high_bytes bs all)

of_character : (c : ℕ) → length (flat_map escaped (encode_utf8 c)) ≤ 6
unfolding encode_utf8
of_character c =
    let P = λ (s : List ℕ). length (flat_map escaped s) ≤ 6 in
    let two : List ℕ = (192 + c / 64) ∷ (128 + c % 64) ∷ [] in
    let three : List ℕ = (224 + c / 4096) ∷ (128 + (c / 64) % 64) ∷ (128 + c % 64) ∷ [] in
    let four : List ℕ = (240 + c / 262144) ∷ (128 + (c / 4096) % 64) ∷ (128 + (c / 64) % 64) ∷ (128 + c % 64) ∷ [] in
    of_two P (nat_lt c 128) (c ∷ []) (cond (nat_lt c 2048) two (cond (nat_lt c 65536) three four)) (one_byte c)
    (of_two P (nat_lt c 2048) two (cond (nat_lt c 65536) three four) (few_high two (omega arith) ((omega arith), ((omega arith), tt)))
    (of_two P (nat_lt c 65536) three four (few_high three (omega arith) ((omega arith), ((omega arith), ((omega arith), tt))))
    (few_high four (omega arith) ((omega arith), ((omega arith), ((omega arith), ((omega arith), tt)))))))

short_piece : (b : ℕ) → IsShort b → length (flat_map escaped (b ∷ [])) ≤ 2
unfolding IsShort
short_piece b h = omega (arith, length-append (escaped b) [], h)

piece_small : (p : Piece) → IsPiece p → length (flat_map escaped (meaning p)) ≤ length (spelling p)
piece_small (plain b) is = omega (arith, length-append (escaped b) [], ap length (escaped_plain b is.0 is.1 is.2))
piece_small (short e b) is = short_piece b (short_letter e b is)
piece_small (code c) is = of_character (value c)
piece_small (pair c d) is = omega (arith, of_character (joint (value c) (value d)))

pieces_small : (ps : List Piece) → AllByRecursion IsPiece ps → length (flat_map escaped (flat_map meaning ps)) ≤ length (flat_map spelling ps)
pieces_small [] each = omega arith
pieces_small (p ∷ ps) each =
    omega (
      arith,
      ap length (flat_map-append escaped (meaning p) (flat_map meaning ps)),
      length-append (flat_map escaped (meaning p)) (flat_map escaped (flat_map meaning ps)),
      length-append (spelling p) (flat_map spelling ps),
      piece_small p each.0,
      pieces_small ps each.1,
    )

quoted_small : (s all : List ℕ) → IsQuoted s all → length (quoted s) ≤ length all
quoted_small s all is =
    omega (
      arith,
      subst (λ t. length (flat_map escaped t) ≤ length (flat_map spelling is.pieces)) (sym is.stands) (pieces_small is.pieces is.each),
      length-append (flat_map escaped s) (34 ∷ []),
      length-append (flat_map spelling is.pieces) (34 ∷ []),
      ap length is.spelled,
    )

-- ---- values

pub padded_longer : (P : List ℕ → Type 0) (all : List ℕ) (is : IsPadded P all) → length is.inner ≤ length all
padded_longer P all is = omega (arith, ap length is.spelled, length-append is.before (is.inner ++ is.after), length-append is.inner is.after)

pair_small : (k : List ℕ) (t : Tree) (all : List ℕ) → (is : IsPair k (IsValue t) all) → length (body_text t) ≤ length is.is_rest.inner → length (quoted k ++ 58 ∷ body_text t) ≤ length all
pair_small k t all is small =
    omega (
      arith,
      quoted_small k is.is_name.inner is.is_name.is_inner,
      padded_longer (IsQuoted k) is.name is.is_name,
      padded_longer (IsValue t) is.rest is.is_rest,
      small,
      ap length is.spelled,
      length-append is.name (58 ∷ is.rest),
      length-append (quoted k) (58 ∷ body_text t),
    )

mutual
  pub text_small : (t : Tree) (all : List ℕ) → IsValue t all → length (body_text t) ≤ length all
  text_small null all is = omega (arith, ap length is)
  text_small (boolean b) all is = omega (arith, ap length is)
  text_small (int n) all is = omega (arith, ap length is.0)
  text_small (text s) all is = quoted_small s all is
  text_small (bytes s) all is = absurd is
  text_small (array es) all is =
      omega (arith, elements_small es is.0 is.2, ap length is.1, length-append (joined (element_texts es)) (93 ∷ []), length-append is.0 (93 ∷ []))
  text_small (object ms) all is =
      omega (arith, members_small ms is.0 is.2, ap length is.1, length-append (joined (member_texts ms)) (125 ∷ []), length-append is.0 (125 ∷ []))

  elements_small : (es : Elements) (all : List ℕ) → AreElements es all → length (joined (element_texts es)) ≤ length all
  elements_small no_elements all are = omega arith
  elements_small (element t es) all are =
      omega (
        arith,
        ap length (joined_more (body_text t) (element_texts es)),
        length-append (body_text t) (more_texts (element_texts es)),
        text_small t are.3.inner are.3.is_inner,
        padded_longer (IsValue t) are.0 are.3,
        more_elements_small es are.1 are.4,
        ap length are.2,
        length-append are.0 are.1,
      )

  more_elements_small : (es : Elements) (all : List ℕ) → AreMoreElements es all → length (more_texts (element_texts es)) ≤ length all
  more_elements_small no_elements all are = omega arith
  more_elements_small (element t es) all are =
      omega (
        arith,
        length-append (body_text t) (more_texts (element_texts es)),
        text_small t are.3.inner are.3.is_inner,
        padded_longer (IsValue t) are.0 are.3,
        more_elements_small es are.1 are.4,
        ap length are.2,
        length-append are.0 are.1,
      )

  members_small : (ms : Members) (all : List ℕ) → AreMembers ms all → length (joined (member_texts ms)) ≤ length all
  members_small no_members all are = omega arith
  members_small (member k t ms) all are =
      omega (
        arith,
        ap length (joined_more (quoted k ++ 58 ∷ body_text t) (member_texts ms)),
        length-append (quoted k ++ 58 ∷ body_text t) (more_texts (member_texts ms)),
        pair_small k t are.0 are.3 (text_small t are.3.is_rest.inner are.3.is_rest.is_inner),
        more_members_small ms are.1 are.4,
        ap length are.2,
        length-append are.0 are.1,
      )

  more_members_small : (ms : Members) (all : List ℕ) → AreMoreMembers ms all → length (more_texts (member_texts ms)) ≤ length all
  more_members_small no_members all are = omega arith
  more_members_small (member k t ms) all are =
      omega (
        arith,
        length-append (quoted k ++ 58 ∷ body_text t) (more_texts (member_texts ms)),
        pair_small k t are.0 are.3 (text_small t are.3.is_rest.inner are.3.is_rest.is_inner),
        more_members_small ms are.1 are.4,
        ap length are.2,
        length-append are.0 are.1,
      )

-- ---- arrays and objects by their parts

joined_parts : (ts : List (List ℕ)) → length (joined ts) ≡ parts ts - 1
joined_parts [] = omega arith
joined_parts (t ∷ ts) = omega (arith, joined_length t ts)

-- how much of an object's text a member takes, with what stands behind it
abbrev pub weight : List ℕ → Tree → ℕ
weight name value = length (quoted name) + length (body_text value) + 2

abbrev pub array_parts : Elements → ℕ
array_parts es = parts (element_texts es)

abbrev pub object_parts : Members → ℕ
object_parts ms = parts (member_texts ms)

pub one_member : (k : List ℕ) (t : Tree) (ms : Members) → object_parts (member k t ms) ≡ weight k t + object_parts ms
one_member k t ms = omega (arith, length-append (quoted k) (58 ∷ body_text t))

pub smaller_array : (ds es : Elements) → array_parts ds ≤ array_parts es → length (body_text (array ds)) ≤ length (body_text (array es))
smaller_array ds es small =
    omega (arith, joined_parts (element_texts ds), joined_parts (element_texts es), length-append (joined (element_texts ds)) (93 ∷ []), length-append (joined (element_texts es)) (93 ∷ []))

pub smaller_object : (ls ms : Members) → object_parts ls ≤ object_parts ms → length (body_text (object ls)) ≤ length (body_text (object ms))
smaller_object ls ms small =
    omega (arith, joined_parts (member_texts ls), joined_parts (member_texts ms), length-append (joined (member_texts ls)) (125 ∷ []), length-append (joined (member_texts ms)) (125 ∷ []))

put_chosen : (o : Ordering) (k l : List ℕ) (t u : Tree) (ms more : Members) → object_parts more ≤ weight k t + object_parts ms
    → object_parts (match_ordering o (member k t (member l u ms)) (member k t ms) (member l u more)) ≤ weight k t + object_parts (member l u ms)
put_chosen Less k l t u ms more small = omega (arith, one_member k t (member l u ms))
put_chosen Equal k l t u ms more small = omega (arith, one_member k t ms, one_member l u ms)
put_chosen Greater k l t u ms more small = omega (arith, one_member l u more, one_member l u ms)

pub put_small : (k : List ℕ) (t : Tree) (ms : Members) → object_parts (put k t ms) ≤ weight k t + object_parts ms
put_small k t no_members = omega (arith, one_member k t no_members)
put_small k t (member l u ms) = put_chosen (slice_cmp nat_cmp k l) k l t u ms (put k t ms) (put_small k t ms)

mutual
  pub settled_small : (t : Tree) → length (body_text (settled t)) ≤ length (body_text t)
  settled_small null = omega arith
  settled_small (boolean b) = omega arith
  settled_small (int n) = omega arith
  settled_small (text s) = omega arith
  settled_small (bytes s) = omega arith
  settled_small (array es) = smaller_array (settled_elements es) es (settled_elements_small es)
  settled_small (object ms) = smaller_object (settled_members ms no_members) ms (omega (arith, settled_members_small ms no_members))

  settled_elements_small : (es : Elements) → array_parts (settled_elements es) ≤ array_parts es
  settled_elements_small no_elements = omega arith
  settled_elements_small (element t es) = omega (arith, settled_small t, settled_elements_small es)

  settled_members_small : (ms found : Members) → object_parts (settled_members ms found) ≤ object_parts ms + object_parts found
  settled_members_small no_members found = omega arith
  settled_members_small (member k t ms) found =
      omega (arith, settled_members_small ms (put k (settled t) found), put_small k (settled t) found, settled_small t, one_member k t ms)
