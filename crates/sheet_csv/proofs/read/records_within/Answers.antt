use Rattle.std.proofs.Common.{Bor, List, ℕ, ◌++◌, length-append, ◌∙◌, sym, refl, inl, inr, Some, ◌∷◌, [], arith}
use Rattle.csv.specs.Reading.{Reached, default_config, strip_bom}
use Rattle.csv.specs.Records.{fields_of}
use Rattle.csv.specs.declared.parser.State.TheVariants as st
use Rattle.csv.proofs.ReadFacts.{rows-end, rows-more}
use Rattle.sheet_csv.proofs.Records.{reached_front, records-reached}
use Rattle.sheet_csv.proofs.read.records_within.Goals as goal

pub loop-record-init : goal.loop-record-init
unfolding Reached
loop-record-init c =
    let fr = c.from_reader-rdr.ensures in
    let b = c.flexible.ensures in
    let e = c.has_headers.ensures in
    let start = c.into_iter-record-iterator.ensures.into_iter_gives ∙ refl in
    let rdr = c.into_records-record-items.ensures.rdr in
    let left = c.into_records-record-items.ensures.left in
    rw (start, rdr, c.new-records.ensures.items) (record {
      plain = rw (b, e) at fr.trim ∙ c.new.ensures.trim;
      ready = inr (inr (rw (b, e) at fr.has_headers, fr.headers));
      turns = left;
      config = rw (b, e) at fr.config ∙ c.new.ensures.config;
      few = omega arith;
      rest = strip_bom c.args.text.now;
      source = fr.source;
      reached = (sym fr.state, refl);
    })

pub loop-record-preserved : goal.loop-record-preserved
loop-record-preserved c =
    let inv = c.loop-record.invariant in
    let s = rw (c.in-Some.is, c.in-Ok.is) at ((c.next.ensures.steps inv.turns inv.plain).0 inv.ready) in
    let m = rows-more (λ (s : Bor (List ℕ)). Some s.now) c.loop-record.record-iterator.rdr c.next.new.self.rdr (fields_of c.in-Ok.texts) default_config st.StartRecord (strip_bom c.args.text.now) inv.rest c.loop-record.records.items inv.config inv.source inv.reached s.0 in
    rw c.in_ok-push.ensures.items (record {
      plain = s.0.3 ∙ inv.plain;
      ready = inl s.1;
      turns = s.3;
      config = s.0.2 ∙ inv.config;
      few = omega (arith, length-append {A = List (List ℕ)});
      rest = m.0;
      source = m.1;
      reached = m.2;
    })

-- one record more than there may be
pub returns-then-len-most : goal.returns-then-len-most
returns-then-len-most c =
    let inv = c.loop-record.invariant in
    let s = rw (c.in-Some.is, c.in-Ok.is) at ((c.next.ensures.steps inv.turns inv.plain).0 inv.ready) in
    let m = rows-more (λ (s : Bor (List ℕ)). Some s.now) c.loop-record.record-iterator.rdr c.next.new.self.rdr (fields_of c.in-Ok.texts) default_config st.StartRecord (strip_bom c.args.text.now) inv.rest c.loop-record.records.items inv.config inv.source inv.reached s.0 in
    let front = reached_front (strip_bom c.args.text.now) (c.loop-record.records.items ++ fields_of c.in-Ok.texts ∷ []) _ m.0 m.2 in
    omega (arith, front, length-append c.loop-record.records.items (fields_of c.in-Ok.texts ∷ []))

pub returns : goal.returns
returns c =
    let inv = c.loop-record.invariant in
    let s = rw c.in-None.is at ((c.next.ensures.steps inv.turns inv.plain).0 inv.ready) in
    let all = records-reached (strip_bom c.args.text.now) c.loop-record.records.items c.loop-record.record-iterator.rdr.state inv.rest inv.reached (rows-end (λ (s : Bor (List ℕ)). Some s.now) c.loop-record.record-iterator.rdr c.next.new.self.rdr [] default_config inv.rest inv.config inv.source s) in
    (sym all, inv.few)
