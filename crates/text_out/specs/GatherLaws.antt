-- How the calls that write one text add up.
use Rattle.std.specs.Prelude.{◌≡◌, ℕ, ◌+◌, List, [], ◌∷◌, ◌++◌, Option, None, Some, option_map, Result, Ok, Err, ⊤}
use Rattle.std.specs.List.{range_with_len}
use Rattle.std.proofs.Common.{refl, sym, ◌∙◌, ap, subst, append_assoc, zero-add}
use Rattle.std.proofs.lemmas.Bool.{false≢true}
use Rattle.std.proofs.lemmas.Grind.{take_at_read, flat_map-append}
use Rattle.std.proofs.lemmas.List.{append-nil, take_all, map-id}
use Rattle.std.proofs.lemmas.List.FromFn.{map-range_with_len_more}
use Rattle.rst_outside.specs.Sink.{SinkState, Wrote, CutShort, Writes}
use Rattle.rst_outside.specs.SinkLaws.{wrote_nothing, wrote_more, cut_later, cut_sooner}
use Rattle.text_out.specs.Gathers.{Gathered, Gathers, Finishes}

-- Nothing was written.
pub gathers_nothing : (state : SinkState) (block : Option (List ℕ)) → Gathers state block [] state block
gathers_nothing state block = record {
  gathered =
      λ waiting waiting' e e'. record { front = []; split = append-nil waiting ∙ cc; wrote = wrote_nothing state };
  short = λ waiting e e'. absurd cc;
  failed = λ e. (e, refl);
}

-- The text only waits.
pub gathers_waiting : (state : SinkState) (block : Option (List ℕ)) (text : List ℕ) (block' : Option (List ℕ)) →
    block' ≡ option_map (λ waiting. waiting ++ text) block → Gathers state block text state block'
gathers_waiting state block text block' more = record {
  gathered = λ waiting waiting' e e'. record { front = []; split = cc; wrote = wrote_nothing state };
  short = λ waiting e e'. absurd cc;
  failed = λ e. (cc, refl);
}

-- One text was gathered after another.
gathered_more : (before : SinkState) (waiting first : List ℕ) (mid : SinkState) (waiting' next : List ℕ)
    (after : SinkState) (waiting'' : List ℕ) →
    Gathered before waiting first mid waiting' → Gathered mid waiting' next after waiting'' →
    Gathered before waiting (first ++ next) after waiting''
gathered_more before waiting first mid waiting' next after waiting'' one two = record {
  front = one.front ++ two.front;
  split = sym (append_assoc waiting first next) ∙ ap (λ x. x ++ next) one.split ∙ append_assoc one.front waiting' next
      ∙ ap (λ x. one.front ++ x) two.split ∙ sym (append_assoc one.front two.front waiting'');
  wrote = wrote_more before one.front mid two.front after one.wrote two.wrote;
}

-- A text was cut short after another was gathered.
cut_after : (before : SinkState) (waiting first : List ℕ) (mid : SinkState) (waiting' next : List ℕ)
    (after : SinkState) →
    Gathered before waiting first mid waiting' → CutShort mid (waiting' ++ next) after →
    CutShort before (waiting ++ (first ++ next)) after
cut_after before waiting first mid waiting' next after one two =
    let parts : one.front ++ (waiting' ++ next) ≡ waiting ++ (first ++ next) =
    sym (append_assoc one.front waiting' next) ∙ ap (λ x. x ++ next) (sym one.split)
    ∙ append_assoc waiting first next in
    subst (λ text. CutShort before text after) parts
    (cut_later before one.front mid (waiting' ++ next) after one.wrote two)

-- Text after text is the two together: both were gathered, or the first or the second was cut short.
pub gathers_more : (before : SinkState) (block : Option (List ℕ)) (first : List ℕ) (mid : SinkState)
    (block' : Option (List ℕ)) (next : List ℕ) (after : SinkState) (block'' : Option (List ℕ)) →
    Gathers before block first mid block' → Gathers mid block' next after block'' →
    Gathers before block (first ++ next) after block''
gathers_more before block first mid (Some waiting') next after block'' one two = record {
  gathered = λ waiting waiting'' e e''.
      gathered_more before waiting first mid waiting' next after waiting'' (one.gathered waiting waiting' e refl)
      (two.gathered waiting' waiting'' refl e'');
  short = λ waiting e e''.
      cut_after before waiting first mid waiting' next after (one.gathered waiting waiting' e refl)
      (two.short waiting' refl e'');
  failed = λ e. let stays = (one.failed e).0 in absurd cc;
}
gathers_more before block first mid None next after block'' one two =
    let (gone, same) = two.failed refl in
    record {
      gathered = λ waiting waiting'' e e''. absurd cc;
      short = λ waiting e e''.
          let cut = cut_sooner before (waiting ++ first) mid next (one.short waiting e refl) in
          subst (λ text. CutShort before text after) (append_assoc waiting first next)
          (subst (λ state. CutShort before ((waiting ++ first) ++ next) state) (sym same) cut);
      failed = λ e. (gone, same ∙ (one.failed e).1);
    }

-- A whole text is written where it was gathered from an empty block and what waited was written out.
pub writes_gathered : {E : Type 0} (start : SinkState) (text : List ℕ) (mid : SinkState) (block : Option (List ℕ))
    (after : SinkState) (result : Result ⊤ E) →
    Gathers start (Some []) text mid block → Finishes mid block after result → Writes start text after result
writes_gathered start text mid (Some waiting) after (Ok done) one two =
    let all = one.gathered [] waiting refl refl in
    subst (λ whole. Wrote start whole after) (sym all.split)
    (wrote_more start all.front mid waiting after all.wrote (two.written waiting refl))
writes_gathered start text mid (Some waiting) after (Err fault) one two =
    let all = one.gathered [] waiting refl refl in
    subst (λ whole. CutShort start whole after) (sym all.split)
    (cut_later start all.front mid waiting after all.wrote (two.written waiting refl))
writes_gathered start text mid None after (Ok done) one two = absurd (false≢true (two.failed refl).0)
writes_gathered start text mid None after (Err fault) one two =
    subst (λ state. CutShort start text state) (sym (two.failed refl).1) (one.short [] refl refl)

-- Two calls, one after another
pub gathers_two : (s0 s1 s2 : SinkState) (b0 b1 b2 : Option (List ℕ)) (t1 t2 text : List ℕ) →
    Gathers s0 b0 t1 s1 b1 → Gathers s1 b1 t2 s2 b2 →
    t1 ++ t2 ≡ text → Gathers s0 b0 text s2 b2
gathers_two s0 s1 s2 b0 b1 b2 t1 t2 text p1 p2 same =
    subst (λ whole. Gathers s0 b0 whole s2 b2) same (gathers_more s0 b0 t1 s1 b1 t2 s2 b2 p1 p2)

-- Three calls, one after another
pub gathers_three : (s0 s1 s2 s3 : SinkState) (b0 b1 b2 b3 : Option (List ℕ)) (t1 t2 t3 text : List ℕ) →
    Gathers s0 b0 t1 s1 b1 → Gathers s1 b1 t2 s2 b2 →
    Gathers s2 b2 t3 s3 b3 →
    t1 ++ (t2 ++ t3) ≡ text → Gathers s0 b0 text s3 b3
gathers_three s0 s1 s2 s3 b0 b1 b2 b3 t1 t2 t3 text p1 p2 p3 same =
    let rest = gathers_two s1 s2 s3 b1 b2 b3 t2 t3 (t2 ++ t3) p2 p3 refl in
    gathers_two s0 s1 s3 b0 b1 b3 t1 (t2 ++ t3) text p1 rest same

-- Four calls, one after another
pub gathers_four : (s0 s1 s2 s3 s4 : SinkState) (b0 b1 b2 b3 b4 : Option (List ℕ)) (t1 t2 t3 t4 text : List ℕ) →
    Gathers s0 b0 t1 s1 b1 → Gathers s1 b1 t2 s2 b2 →
    Gathers s2 b2 t3 s3 b3 → Gathers s3 b3 t4 s4 b4 →
    t1 ++ (t2 ++ (t3 ++ t4)) ≡ text → Gathers s0 b0 text s4 b4
gathers_four s0 s1 s2 s3 s4 b0 b1 b2 b3 b4 t1 t2 t3 t4 text p1 p2 p3 p4 same =
    let rest = gathers_three s1 s2 s3 s4 b1 b2 b3 b4 t2 t3 t4 (t2 ++ (t3 ++ t4)) p2 p3 p4 refl in
    gathers_two s0 s1 s4 b0 b1 b4 t1 (t2 ++ (t3 ++ t4)) text p1 rest same

-- Five calls, one after another
pub gathers_five : (s0 s1 s2 s3 s4 s5 : SinkState) (b0 b1 b2 b3 b4 b5 : Option (List ℕ))
    (t1 t2 t3 t4 t5 text : List ℕ) →
    Gathers s0 b0 t1 s1 b1 → Gathers s1 b1 t2 s2 b2 →
    Gathers s2 b2 t3 s3 b3 → Gathers s3 b3 t4 s4 b4 →
    Gathers s4 b4 t5 s5 b5 →
    t1 ++ (t2 ++ (t3 ++ (t4 ++ t5))) ≡ text → Gathers s0 b0 text s5 b5
gathers_five s0 s1 s2 s3 s4 s5 b0 b1 b2 b3 b4 b5 t1 t2 t3 t4 t5 text p1 p2 p3 p4 p5 same =
    let rest = gathers_four s1 s2 s3 s4 s5 b1 b2 b3 b4 b5 t2 t3 t4 t5 (t2 ++ (t3 ++ (t4 ++ t5))) p2 p3 p4 p5 refl in
    gathers_two s0 s1 s5 b0 b1 b5 t1 (t2 ++ (t3 ++ (t4 ++ t5))) text p1 rest same

-- Six calls, one after another
pub gathers_six : (s0 s1 s2 s3 s4 s5 s6 : SinkState) (b0 b1 b2 b3 b4 b5 b6 : Option (List ℕ))
    (t1 t2 t3 t4 t5 t6 text : List ℕ) →
    Gathers s0 b0 t1 s1 b1 → Gathers s1 b1 t2 s2 b2 →
    Gathers s2 b2 t3 s3 b3 → Gathers s3 b3 t4 s4 b4 →
    Gathers s4 b4 t5 s5 b5 → Gathers s5 b5 t6 s6 b6 →
    t1 ++ (t2 ++ (t3 ++ (t4 ++ (t5 ++ t6)))) ≡ text → Gathers s0 b0 text s6 b6
gathers_six s0 s1 s2 s3 s4 s5 s6 b0 b1 b2 b3 b4 b5 b6 t1 t2 t3 t4 t5 t6 text p1 p2 p3 p4 p5 p6 same =
    let rest =
    gathers_five s1 s2 s3 s4 s5 s6 b1 b2 b3 b4 b5 b6 t2 t3 t4 t5 t6 (t2 ++ (t3 ++ (t4 ++ (t5 ++ t6)))) p2 p3 p4 p5
    p6 refl in
    gathers_two s0 s1 s6 b0 b1 b6 t1 (t2 ++ (t3 ++ (t4 ++ (t5 ++ t6)))) text p1 rest same

-- Seven calls, one after another
pub gathers_seven : (s0 s1 s2 s3 s4 s5 s6 s7 : SinkState) (b0 b1 b2 b3 b4 b5 b6 b7 : Option (List ℕ))
    (t1 t2 t3 t4 t5 t6 t7 text : List ℕ) →
    Gathers s0 b0 t1 s1 b1 → Gathers s1 b1 t2 s2 b2 →
    Gathers s2 b2 t3 s3 b3 → Gathers s3 b3 t4 s4 b4 →
    Gathers s4 b4 t5 s5 b5 → Gathers s5 b5 t6 s6 b6 →
    Gathers s6 b6 t7 s7 b7 →
    t1 ++ (t2 ++ (t3 ++ (t4 ++ (t5 ++ (t6 ++ t7))))) ≡ text → Gathers s0 b0 text s7 b7
gathers_seven s0 s1 s2 s3 s4 s5 s6 s7 b0 b1 b2 b3 b4 b5 b6 b7 t1 t2 t3 t4 t5 t6 t7 text p1 p2 p3 p4 p5 p6 p7 same =
    let rest =
    gathers_six s1 s2 s3 s4 s5 s6 s7 b1 b2 b3 b4 b5 b6 b7 t2 t3 t4 t5 t6 t7
    (t2 ++ (t3 ++ (t4 ++ (t5 ++ (t6 ++ t7))))) p2 p3 p4 p5 p6 p7 refl in
    gathers_two s0 s1 s7 b0 b1 b7 t1 (t2 ++ (t3 ++ (t4 ++ (t5 ++ (t6 ++ t7))))) text p1 rest same

-- Eight calls, one after another
pub gathers_eight : (s0 s1 s2 s3 s4 s5 s6 s7 s8 : SinkState) (b0 b1 b2 b3 b4 b5 b6 b7 b8 : Option (List ℕ))
    (t1 t2 t3 t4 t5 t6 t7 t8 text : List ℕ) →
    Gathers s0 b0 t1 s1 b1 → Gathers s1 b1 t2 s2 b2 →
    Gathers s2 b2 t3 s3 b3 → Gathers s3 b3 t4 s4 b4 →
    Gathers s4 b4 t5 s5 b5 → Gathers s5 b5 t6 s6 b6 →
    Gathers s6 b6 t7 s7 b7 → Gathers s7 b7 t8 s8 b8 →
    t1 ++ (t2 ++ (t3 ++ (t4 ++ (t5 ++ (t6 ++ (t7 ++ t8)))))) ≡ text → Gathers s0 b0 text s8 b8
gathers_eight s0 s1 s2 s3 s4 s5 s6 s7 s8 b0 b1 b2 b3 b4 b5 b6 b7 b8 t1 t2 t3 t4 t5 t6 t7 t8 text p1 p2 p3 p4 p5 p6 p7
    p8 same =
    let rest =
    gathers_seven s1 s2 s3 s4 s5 s6 s7 s8 b1 b2 b3 b4 b5 b6 b7 b8 t2 t3 t4 t5 t6 t7 t8
    (t2 ++ (t3 ++ (t4 ++ (t5 ++ (t6 ++ (t7 ++ t8)))))) p2 p3 p4 p5 p6 p7 p8 refl in
    gathers_two s0 s1 s8 b0 b1 b8 t1 (t2 ++ (t3 ++ (t4 ++ (t5 ++ (t6 ++ (t7 ++ t8)))))) text p1 rest same

-- One call and the end
pub writes_one : {E : Type 0} (s0 s1 after : SinkState) (b1 : Option (List ℕ)) (t1 text : List ℕ)
    (result : Result ⊤ E) →
    Gathers s0 (Some []) t1 s1 b1 →
    Finishes s1 b1 after result → t1 ≡ text → Writes s0 text after result
writes_one s0 s1 after b1 t1 text result p1 end same =
    subst (λ whole. Writes s0 whole after result) same (writes_gathered s0 t1 s1 b1 after result p1 end)

-- Two calls and the end
pub writes_two : {E : Type 0} (s0 s1 s2 after : SinkState) (b1 b2 : Option (List ℕ)) (t1 t2 text : List ℕ)
    (result : Result ⊤ E) →
    Gathers s0 (Some []) t1 s1 b1 → Gathers s1 b1 t2 s2 b2 →
    Finishes s2 b2 after result → t1 ++ t2 ≡ text → Writes s0 text after result
writes_two s0 s1 s2 after b1 b2 t1 t2 text result p1 p2 end same =
    let all = gathers_two s0 s1 s2 (Some []) b1 b2 t1 t2 (t1 ++ t2) p1 p2 refl in
    subst (λ whole. Writes s0 whole after result) same (writes_gathered s0 (t1 ++ t2) s2 b2 after result all end)

-- Three calls and the end
pub writes_three : {E : Type 0} (s0 s1 s2 s3 after : SinkState) (b1 b2 b3 : Option (List ℕ)) (t1 t2 t3 text : List ℕ)
    (result : Result ⊤ E) →
    Gathers s0 (Some []) t1 s1 b1 → Gathers s1 b1 t2 s2 b2 →
    Gathers s2 b2 t3 s3 b3 →
    Finishes s3 b3 after result → t1 ++ (t2 ++ t3) ≡ text → Writes s0 text after result
writes_three s0 s1 s2 s3 after b1 b2 b3 t1 t2 t3 text result p1 p2 p3 end same =
    let all = gathers_three s0 s1 s2 s3 (Some []) b1 b2 b3 t1 t2 t3 (t1 ++ (t2 ++ t3)) p1 p2 p3 refl in
    subst (λ whole. Writes s0 whole after result) same
    (writes_gathered s0 (t1 ++ (t2 ++ t3)) s3 b3 after result all end)

-- One more number in a loop over the numbers from 0
pub range_more : (n : ℕ) → range_with_len 0 (n + 1) ≡ range_with_len 0 n ++ n ∷ []
range_more n =
    sym (map-id (range_with_len 0 (n + 1))) ∙ map-range_with_len_more (λ x. x) 0 n n (zero-add n)
    ∙ ap (λ x. x ++ n ∷ []) (map-id (range_with_len 0 n))

-- What proves a function of two to eight calls, a loop over items or numbers that writes the text of each, and
-- a function of one to three calls and the end.
pub ruleset pieces = (
  gathers_nothing,
  gathers_two,
  gathers_three,
  gathers_four,
  gathers_five,
  gathers_six,
  gathers_seven,
  gathers_eight,
  writes_one,
  writes_two,
  writes_three,
  append_assoc,
  append-nil,
  take_at_read,
  take_all,
  flat_map-append,
  range_more,
)
