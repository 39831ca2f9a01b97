-- The text of a history, and of one that goes on.
use Rattle.std.proofs.Common.{◌≡◌, ℕ, ◌+◌, ◌^◌, ◌<◌, suc, List, [], ◌∷◌, ◌++◌, length, length-append, refl, sym, ◌∙◌, ap, arith, append_assoc, Option, subst, Bool, true, false, cond}
use Rattle.std.specs.Io.KnownBytes.{Appends}
use Rattle.std.proofs.KnownBytes.{Appends-nil, Appends-trans}
use Rattle.std.proofs.lemmas.List.{append-nil}
use Rattle.vx_line.specs.Made.{first_call}
use Rattle.vx_call.specs.declared.history.Traced.{Traced}
use Rattle.vx_call.specs.Refusals.{is_spent}
use Rattle.vx_call.specs.Machine.{answer}
use Rattle.vx_call.specs.Passes.{passes}
use Rattle.vx_io.specs.Writing.{Begins, AppendsFront}
use Rattle.vx_reply_text.specs.Replies.{reply_line, text_from, text}
use Rattle.vx_line.specs.declared.command.Command.{Command}
use Rattle.vx_script.specs.Lines.{AreThere}
use Rattle.vx_script.specs.Playing.{behind, history_from, history_of, states_with}
use Rattle.vx_script.proofs.Counts.{next, not_spent, passes_more, passes_none}

-- A hub stands for a history from which the rest of all calls goes on, and the text of that history was written.
pub record Goes (Stands : List Traced → Type 0) (held held' : Option (List ℕ)) (at : ℕ) (rest all : List Command) : Type 0 where
  pub history : List Traced
  pub stands : Stands history
  pub goes_on : history_from history rest ≡ history_of all
  pub written : Appends held held' (text history)
  pub count : at ≡ length history
  pub there : AreThere (passes history) rest

text_from_push : (n : ℕ) (h : List Traced) (e : Traced) → text_from n (h ++ e ∷ []) ≡ text_from n h ++ reply_line (record { 0 = n + length h }) e.entry.reply
text_from_push n [] e = let k : n + 0 ≡ n = omega arith in rw (k, append-nil) refl
text_from_push n (x ∷ h) e =
    let k : n + suc (length h) ≡ n + 1 + length h = omega arith in
    rw k (ap (λ t. reply_line (record { 0 = n }) x.entry.reply ++ t) (text_from_push (n + 1) h e) ∙ sym (append_assoc (reply_line (record { 0 = n }) x.entry.reply) (text_from (n + 1) h) (reply_line (record { 0 = n + 1 + length h }) e.entry.reply)))

pub text_push : (h : List Traced) (e : Traced) → text (h ++ e ∷ []) ≡ text h ++ reply_line (record { 0 = length h }) e.entry.reply
text_push h e = let k : 0 + length h ≡ length h = omega arith in text_from_push 0 h e ∙ ap (λ (n : ℕ). text h ++ reply_line (record { 0 = n }) e.entry.reply) k

-- the entry of an instruction
abbrev pub following : List Traced → Command → Traced
following h c = next h c.pass (first_call c.instruction) (states_with h c.pass c.instruction)

begins_same : (a : List ℕ) → Begins a a
begins_same a = ([], sym (append-nil a))

begins_front : (all a b : List ℕ) → Begins all (a ++ b) → Begins all a
begins_front all a b p = (b ++ p.0, p.1 ∙ append_assoc a b p.0)

-- a call adds its line to the text, or nothing where the history is spent
text_extended : (all : List ℕ) (h : List Traced) (e : Traced) (spent : Bool) → Begins all (text (cond spent h (h ++ e ∷ []))) → Begins all (text h)
text_extended all h e true p = p
text_extended all h e false p = begins_front all (text h) (reply_line (record { 0 = length h }) e.entry.reply) (subst (Begins all) (text_push h e) p)

pub text_begins : (h : List Traced) (cs : List Command) → Begins (text (history_from h cs)) (text h)
text_begins h [] = begins_same (text h)
text_begins h (c ∷ cs) = text_extended (text (history_from h (c ∷ cs))) h (following h c) (is_spent h) (text_begins (behind h c) cs)

-- below its limit a history goes on
pub behind_more : (h : List Traced) (c : Command) → length h < 2 ^ 48 → behind h c ≡ h ++ following h c ∷ []
behind_more h c few = ap (λ spent. cond spent h (h ++ following h c ∷ [])) (not_spent h few)

behind_text : (h : List Traced) (c : Command) → length h < 2 ^ 48 → text (behind h c) ≡ text h ++ reply_line (record { 0 = length h }) (answer h c.pass (first_call c.instruction))
behind_text h c few = ap text (behind_more h c few) ∙ text_push h (following h c)

begins_inner : (all a line front : List ℕ) → Begins all (a ++ line) → Begins line front → Begins all (a ++ front)
begins_inner all a line front p q =
    (q.0 ++ p.0, p.1 ∙ ap (λ t. (a ++ t) ++ p.0) q.1 ∙ ap (λ t. t ++ p.0) (sym (append_assoc a front q.0)) ∙ append_assoc (a ++ front) q.0 p.0)

-- A front of one more line is written: a front of the whole text.
pub cut_off : (Stands : List Traced → Type 0) (a b c : Option (List ℕ)) (at : ℕ) (command : Command) (rest all : List Command) (g : Goes Stands a b at (command ∷ rest) all) → at < 2 ^ 48 →
    AppendsFront b c (reply_line (record { 0 = at }) (answer g.history command.pass (first_call command.instruction))) → AppendsFront a c (text (history_of all))
cut_off Stands a b c at command rest all g few f =
    let h = g.history in
    let whole = text (history_of all) in
    let line = reply_line (record { 0 = length h }) (answer h command.pass (first_call command.instruction)) in
    let small : length h < 2 ^ 48 = omega (arith, g.count) in
    let one : Begins (text (history_from h (command ∷ rest))) (text h ++ line) =
    subst (Begins (text (history_from h (command ∷ rest)))) (behind_text h command small) (text_begins (behind h command) rest) in
    let p : Begins whole (text h ++ line) = subst (λ (v : List Traced). Begins (text v) (text h ++ line)) g.goes_on one in
    let q : Begins line f.0 = subst (λ (v : ℕ). Begins (reply_line (record { 0 = v }) (answer h command.pass (first_call command.instruction))) f.0) g.count f.1 in
    (text h ++ f.0, begins_inner whole (text h) line f.0 p q, Appends-trans a b c (text h) f.0 g.written f.2)

-- One more line is written.
pub one_more : (Stands Stands' : List Traced → Type 0) (a b c : Option (List ℕ)) (at : ℕ) (command : Command) (rest all : List Command) (g : Goes Stands a b at (command ∷ rest) all) → at < 2 ^ 48 →
    Stands' (behind g.history command) → Appends b c (reply_line (record { 0 = at }) (answer g.history command.pass (first_call command.instruction))) → Goes Stands' a c (at + 1) rest all
one_more Stands Stands' a b c at command rest all g few stands f =
    let h = g.history in
    let small : length h < 2 ^ 48 = omega (arith, g.count) in
    let line : Appends b c (reply_line (record { 0 = length h }) (answer h command.pass (first_call command.instruction))) = subst (λ (v : ℕ). Appends b c (reply_line (record { 0 = v }) (answer h command.pass (first_call command.instruction)))) g.count f in
    record {
      history = behind h command;
      stands = stands;
      goes_on = g.goes_on;
      written = rw (behind_text h command small) (Appends-trans a b c (text h) (reply_line (record { 0 = length h }) (answer h command.pass (first_call command.instruction))) g.written line);
      there = subst (λ (v : ℕ). AreThere v rest) (sym (ap passes (behind_more h command small) ∙ passes_more h command.pass (first_call command.instruction) (states_with h command.pass command.instruction) small)) g.there.1;
      count = omega (arith, g.count, ap length (behind_more h command small), length-append h (following h command ∷ []));
    }

-- Nothing is left: all is written.
pub all_made : (Stands : List Traced → Type 0) (a b : Option (List ℕ)) (at : ℕ) (rest all : List Command) → Goes Stands a b at rest all → rest ≡ [] → Appends a b (text (history_of all))
all_made Stands a b at rest all g e =
    let done : g.history ≡ history_of all = ap (λ (v : List Command). history_from g.history v) (sym e) ∙ g.goes_on in
    subst (λ (v : List Traced). Appends a b (text v)) done g.written

pub begins_all : (Stands : List Traced → Type 0) (a : Option (List ℕ)) (rest all : List Command) → Stands [] → rest ≡ all → AreThere 1 all → Goes Stands a a 0 rest all
begins_all Stands a rest all stands same there = record {
  history = [];
  stands = stands;
  goes_on = ap history_of same;
  written = Appends-nil a;
  count = refl;
  there = rw same (subst (λ (v : ℕ). AreThere v all) (sym passes_none) there);
}
