-- Ours reads a text with members exactly where the grammar derives it with them: all that it reads is derived, all that is derived is
-- read, and a text has one list of members at most.
use Rattle.std.specs.Prelude.{◌≡◌, ℕ, ◌≤◌, Bool, false, eqb, List, [], ◌∷◌, ◌++◌, length}
use mathlib.Core.Path.{refl, ap, ◌∙◌, sym, subst}
use mathlib.Core.List.{append-nil}
use native.Mathlib.Nat.{le_of_eq}
use native.Mathlib.Omega.{arith}
use lib.ListN.{length-append}
use borrow.Author.Tests.{eq-eqb, ne_eqb, eqb-true}
use Rattle.numbers.proofs.Flags.{chosen}
use Rattle.numbers.specs.Told.{choose}
use Rattle.poses.specs.Json.{Language, ◌then◌, one, word, ws, is_blank, Member, members, inside, Text}
use Rattle.poses.specs.How.{byte, past, after, token, Found, found_from, found, Reading, derived, underived, reading}
use Rattle.poses.proofs.Spans.{Spans, ◌and_then◌, spans_as, spans_all, spans_nothing, after_spans, past_spans}
use Rattle.poses.proofs.Spans.{At, at_place, at_first, at_end, past_at, taken_apart, begins_with, after_then, past_then}
use Rattle.poses.proofs.Spans.{then_right, then_left}
use Rattle.poses.proofs.MembersExact.{Some, found_spans, members_begin, found_at}

-- ---- the place where members begin
abbrev start : List ℕ → ℕ
start s = token 123 s (past s 0)

-- ---- what is read is derived
some_inside : (ms : List Member) (t : List ℕ) → Some ms t → (inside ms then one 125 then ws) t
some_inside [] t d = absurd d
some_inside (m ∷ ms) t d = then_left (members m ms) ws (one 125 then ws) t d

-- in front of what is inside
text_from : (s : List ℕ) (j : ℕ) (ms : List Member) → Spans s (start s) j (inside ms then one 125 then ws) → Spans s 0 j (Text ms)
text_from s j ms x =
    let w2 = past_spans s (after 123 s (past s 0)) x.from_in in
    let brace = after_spans 123 s (past s 0) w2.from_in in
    let w1 = past_spans s 0 brace.from_in in
    w1 and_then brace and_then w2 and_then x

found_text : (s : List ℕ) → (found s).next ≤ length s → Spans s 0 (found s).next (Text (found s).members)
unfolding found
found_text s =
    let i = start s in
    chosen (λ (r : Found). r.next ≤ length s → Spans s 0 r.next (Text r.members)) (eqb (byte s i) 125)
    (record { members = []; next = token 125 s i }) (found_from (length s) s i)
    (λ e h.
    let w = past_spans s (after 125 s i) h in
    let close = after_spans 125 s i w.from_in in
    text_from s (token 125 s i) [] (spans_nothing s i close.from_in and_then close and_then w))
    (λ e h.
    text_from s (found_from (length s) s i).next (found_from (length s) s i).members
    (spans_as {P = Some (found_from (length s) s i).members} (some_inside (found_from (length s) s i).members)
    (found_spans (length s) s i h)))

-- ---- what is derived is read
nothing_then : (Q : Language) (t : List ℕ) → (word [] then Q) t → Q t
nothing_then Q t d = subst Q (sym (d.2 ∙ ap (λ (u : List ℕ). u ++ d.1) d.3)) d.4

abbrev Finds : List Member → List ℕ → Type 0
Finds ms s = ((found s).members ≡ ms) × ((found s).next ≡ length s)

none_found : (s t : List ℕ) → (one 125 then ws) t → At s (start s) (t ++ []) → Finds [] s
unfolding found
none_found s t d x =
    let i = start s in
    let e : found s ≡ record { members = []; next = token 125 s i } =
    ap (λ (b : Bool). choose b (record { members = []; next = token 125 s i }) (found_from (length s) s i))
    (eq-eqb (byte s i) 125 (at_first x ∙ begins_with 125 ws t [] d)) in
    let over : At s (token 125 s i) [] = past_at d.1 [] (after_then 125 ws t [] d x) d.4 refl in
    (ap (λ (r : Found). r.members) e, ap (λ (r : Found). r.next) e ∙ at_end over)

some_found : (s t : List ℕ) (m : Member) (ms : List Member) → (members m ms then ws then one 125 then ws) t
    → At s (start s) (t ++ []) → Finds (m ∷ ms) s
unfolding found
some_found s t m ms d x =
    let i = start s in
    let d1 = d.4 in
    let c = d1.4 in
    let v = members_begin m ms d.0 d.3 in
    let last : d1.1 ++ [] ≡ 125 ∷ c.1 =
    append-nil d1.1 ∙ c.2 ∙ ap (λ (u : List ℕ). u ++ c.1) c.3 in
    let text : t ++ [] ≡ d.0 ++ (d1.0 ++ (125 ∷ c.1)) =
    taken_apart (members m ms) (ws then one 125 then ws) t [] d
    ∙ ap (λ (u : List ℕ). d.0 ++ u) (taken_apart ws (one 125 then ws) d.1 [] d1)
    ∙ ap (λ (u : List ℕ). d.0 ++ (d1.0 ++ u)) last in
    let y : At s i (d.0 ++ (d1.0 ++ (125 ∷ c.1))) = subst (At s i) text x in
    let first : byte s i ≡ 34 = at_first y ∙ ap (λ (u : List ℕ). byte (u ++ (d1.0 ++ (125 ∷ c.1))) 0) v.1 in
    let enough : length d.0 ≤ length s = omega (arith, y.ends, length-append d.0 (d1.0 ++ (125 ∷ c.1))) in
    let e : found s ≡ found_from (length s) s i =
    ap (λ (b : Bool). choose b (record { members = []; next = token 125 s i }) (found_from (length s) s i))
    (ne_eqb (byte s i) 125 (omega arith)) in
    let got = found_at ms (length s) s i m d.0 d1.0 c.1 d.3 d1.3 c.4 y enough in
    (ap (λ (r : Found). r.members) e ∙ got.0, ap (λ (r : Found). r.next) e ∙ got.1)

-- what stands behind the opening brace
opening : (s : List ℕ) (Q : Language) (d : (ws then one 123 then ws then Q) s) → is_blank (byte (d.4.4.1 ++ []) 0) ≡ false
    → At s (start s) (d.4.4.1 ++ [])
opening s Q d first =
    let c = d.4 in
    let w = c.4 in
    let a0 : At s 0 (s ++ []) = subst (At s 0) (sym (append-nil s)) (at_place s) in
    let a1 : At s (past s 0) (d.1 ++ []) =
    past_then (one 123 then ws then Q) s [] d (ap is_blank (begins_with 123 (ws then Q) d.1 [] c)) a0 in
    past_then Q c.1 [] w first (after_then 123 (ws then Q) d.1 [] c a1)

text_found : (ms : List Member) (s : List ℕ) → Text ms s → Finds ms s
text_found [] s d =
    let w = d.4.4 in
    let close = nothing_then (one 125 then ws) w.1 w.4 in
    none_found s w.1 close (opening s (inside [] then one 125 then ws) d (ap is_blank (begins_with 125 ws w.1 [] close)))
text_found (m ∷ ms) s d =
    let w = d.4.4 in
    let g = then_right (members m ms) ws (one 125 then ws) w.1 w.4 in
    let v = members_begin m ms g.0 g.3 in
    let first : is_blank (byte (w.1 ++ []) 0) ≡ false =
    ap (λ (u : List ℕ). is_blank (byte (u ++ []) 0)) (g.2 ∙ ap (λ (u : List ℕ). u ++ g.1) v.1) in
    some_found s w.1 m ms g (opening s (inside (m ∷ ms) then one 125 then ws) d first)

-- ---- a reading
abbrev list_of : Reading → List Member
list_of (derived ms) = ms
list_of underived = []

abbrev IsDerived : Reading → Type 0
IsDerived (derived ms) = Unit
IsDerived underived = ⊥

read_derived : (s : List ℕ) (ms : List Member) → reading s ≡ derived ms → Text ms s
unfolding reading
read_derived s ms =
    let r = found s in
    chosen (λ (q : Reading). q ≡ derived ms → Text ms s) (eqb r.next (length s)) (derived r.members) underived
    (λ e h.
    let all : r.next ≡ length s = eqb-true r.next (length s) e in
    let whole : Spans s 0 (length s) (Text r.members) =
    subst (λ (j : ℕ). Spans s 0 j (Text r.members)) all (found_text s (le_of_eq all)) in
    subst (λ (ns : List Member). Text ns s) (ap list_of h) (spans_all {P = Text r.members} whole))
    (λ e h. absurd (subst IsDerived (sym h) tt))

derived_read : (s : List ℕ) (ms : List Member) → Text ms s → reading s ≡ derived ms
unfolding reading
derived_read s ms d =
    let got = text_found ms s d in
    ap (λ (b : Bool). choose b (derived (found s).members) underived) (eq-eqb (found s).next (length s) got.1) ∙ ap derived got.0

pub accepted_exactly : (s : List ℕ) (ms : List Member) → ((reading s ≡ derived ms → Text ms s) × (Text ms s → reading s ≡ derived ms))
accepted_exactly s ms = (read_derived s ms, derived_read s ms)

-- the grammar gives a text no two lists of members
pub one_list : (s : List ℕ) (ms ns : List Member) → Text ms s → Text ns s → ms ≡ ns
one_list s ms ns d e = ap list_of (sym (derived_read s ms d) ∙ derived_read s ns e)

-- what is not read has no members, and what has none is not read
pub underived_exactly : (s : List ℕ)
    → ((reading s ≡ underived → (ms : List Member) → Text ms s → ⊥) × (((ms : List Member) → Text ms s → ⊥) → reading s ≡ underived))
underived_exactly s = (λ e ms d. subst IsDerived (sym (derived_read s ms d) ∙ e) tt, λ none. by_reading none (reading s) refl)
  where
    by_reading : ((ms : List Member) → Text ms s → ⊥) → (r : Reading) → reading s ≡ r → reading s ≡ underived
    by_reading none (derived ms) e = absurd (none ms (read_derived s ms e))
    by_reading none underived e = e
