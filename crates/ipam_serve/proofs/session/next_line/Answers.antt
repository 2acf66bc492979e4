use Rattle.std.proofs.Common.{ℕ, List, Option, refl, sym, ap, ◌∙◌}
use Rattle.ipam_serve.proofs.Reading.{taken-line}
use Rattle.ipam_serve.proofs.session.next_line.Goals as goal

pub returns-in-Ok-Line-clause-line : goal.returns-in-Ok-Line-clause-line
returns-in-Ok-Line-clause-line g c = record {
  is_line = rw c.in-Ok-Line.field-0-is at c.in-Ok-Line.ensures.line;
  bytes = (rw c.in-Ok-Line.field-0-is at c.in-Ok-Line.ensures.bytes) ∙ taken-line c.in-Ok-Line.line.items c.next.new.self (g.L.Source.left c.next.new.source);
}

pub returns-in-Ok-Line-clause-written : goal.returns-in-Ok-Line-clause-written
returns-in-Ok-Line-clause-written g c = ap (λ (p : Option (List ℕ) × ℕ). p.0) (sym (g.met.L.Link.read_leaves_sink c.next.new.source) ∙ (c.next.ensures.rest ∙ g.met.L.Link.read_leaves_sink c.args.link.now))

pub returns-in-Ok-Line-clause-writes : goal.returns-in-Ok-Line-clause-writes
returns-in-Ok-Line-clause-writes g c = ap (λ (p : Option (List ℕ) × ℕ). p.1) (sym (g.met.L.Link.read_leaves_sink c.next.new.source) ∙ (c.next.ensures.rest ∙ g.met.L.Link.read_leaves_sink c.args.link.now))

pub returns-in-Ok-Line-clause-reads : goal.returns-in-Ok-Line-clause-reads
returns-in-Ok-Line-clause-reads g c = c.in-Ok-Line.ensures.no_fault

pub returns-in-Ok-End-clause-none : goal.returns-in-Ok-End-clause-none
returns-in-Ok-End-clause-none g c = sym (rw c.in-Ok-End.field-0-is at c.in-Ok-End.ensures.bytes)

pub returns-in-Ok-End-clause-cause : goal.returns-in-Ok-End-clause-cause
returns-in-Ok-End-clause-cause g c = λ first last. (refl, rw c.in-Ok-End.field-0-is at c.in-Ok-End.ensures.answer)

pub returns-in-Ok-End-clause-written : goal.returns-in-Ok-End-clause-written
returns-in-Ok-End-clause-written g c = ap (λ (p : Option (List ℕ) × ℕ). p.0) (sym (g.met.L.Link.read_leaves_sink c.next.new.source) ∙ (c.next.ensures.rest ∙ g.met.L.Link.read_leaves_sink c.args.link.now))

pub returns-in-Ok-End-clause-writes : goal.returns-in-Ok-End-clause-writes
returns-in-Ok-End-clause-writes g c = ap (λ (p : Option (List ℕ) × ℕ). p.1) (sym (g.met.L.Link.read_leaves_sink c.next.new.source) ∙ (c.next.ensures.rest ∙ g.met.L.Link.read_leaves_sink c.args.link.now))

pub returns-in-Ok-End-clause-reads : goal.returns-in-Ok-End-clause-reads
returns-in-Ok-End-clause-reads g c = c.in-Ok-End.ensures.no_fault

pub returns-in-Ok-Cut-clause-none : goal.returns-in-Ok-Cut-clause-none
returns-in-Ok-Cut-clause-none g c = sym (rw c.in-Ok-Cut.field-0-is at c.in-Ok-Cut.ensures.bytes)

pub returns-in-Ok-Cut-clause-cause : goal.returns-in-Ok-Cut-clause-cause
returns-in-Ok-Cut-clause-cause g c = λ first last. (refl, rw c.in-Ok-Cut.field-0-is at c.in-Ok-Cut.ensures.answer)

pub returns-in-Ok-Cut-clause-written : goal.returns-in-Ok-Cut-clause-written
returns-in-Ok-Cut-clause-written g c = ap (λ (p : Option (List ℕ) × ℕ). p.0) (sym (g.met.L.Link.read_leaves_sink c.next.new.source) ∙ (c.next.ensures.rest ∙ g.met.L.Link.read_leaves_sink c.args.link.now))

pub returns-in-Ok-Cut-clause-writes : goal.returns-in-Ok-Cut-clause-writes
returns-in-Ok-Cut-clause-writes g c = ap (λ (p : Option (List ℕ) × ℕ). p.1) (sym (g.met.L.Link.read_leaves_sink c.next.new.source) ∙ (c.next.ensures.rest ∙ g.met.L.Link.read_leaves_sink c.args.link.now))

pub returns-in-Ok-Cut-clause-reads : goal.returns-in-Ok-Cut-clause-reads
returns-in-Ok-Cut-clause-reads g c = c.in-Ok-Cut.ensures.no_fault

pub returns-in-Err-TooLong-clause-none : goal.returns-in-Err-TooLong-clause-none
returns-in-Err-TooLong-clause-none g c = sym c.in-Err-TooLong.ensures.bytes

pub returns-in-Err-TooLong-clause-cause : goal.returns-in-Err-TooLong-clause-cause
returns-in-Err-TooLong-clause-cause g c = λ first last. (refl, rw c.in-Err-TooLong.field-0-is at c.in-Err-TooLong.ensures.answer)

pub returns-in-Err-TooLong-clause-written : goal.returns-in-Err-TooLong-clause-written
returns-in-Err-TooLong-clause-written g c = ap (λ (p : Option (List ℕ) × ℕ). p.0) (sym (g.met.L.Link.read_leaves_sink c.next.new.source) ∙ (c.next.ensures.rest ∙ g.met.L.Link.read_leaves_sink c.args.link.now))

pub returns-in-Err-TooLong-clause-writes : goal.returns-in-Err-TooLong-clause-writes
returns-in-Err-TooLong-clause-writes g c = ap (λ (p : Option (List ℕ) × ℕ). p.1) (sym (g.met.L.Link.read_leaves_sink c.next.new.source) ∙ (c.next.ensures.rest ∙ g.met.L.Link.read_leaves_sink c.args.link.now))

pub returns-in-Err-TooLong-clause-reads : goal.returns-in-Err-TooLong-clause-reads
returns-in-Err-TooLong-clause-reads g c = rw c.in-Err-TooLong.field-0-is at c.in-Err-TooLong.ensures.no_fault

pub returns-in-Err-Read-clause-none : goal.returns-in-Err-Read-clause-none
returns-in-Err-Read-clause-none g c = sym c.in-Err-Read.ensures.bytes

pub returns-in-Err-Read-clause-written : goal.returns-in-Err-Read-clause-written
returns-in-Err-Read-clause-written g c = ap (λ (p : Option (List ℕ) × ℕ). p.0) (sym (g.met.L.Link.read_leaves_sink c.next.new.source) ∙ (c.next.ensures.rest ∙ g.met.L.Link.read_leaves_sink c.args.link.now))

pub returns-in-Err-Read-clause-writes : goal.returns-in-Err-Read-clause-writes
returns-in-Err-Read-clause-writes g c = ap (λ (p : Option (List ℕ) × ℕ). p.1) (sym (g.met.L.Link.read_leaves_sink c.next.new.source) ∙ (c.next.ensures.rest ∙ g.met.L.Link.read_leaves_sink c.args.link.now))

pub returns-in-Err-Read-clause-reads : goal.returns-in-Err-Read-clause-reads
returns-in-Err-Read-clause-reads g c = rw c.in-Err-Read.field-0-is at c.in-Err-Read.ensures.fault

pub returns-in-Err-Memory-clause-none : goal.returns-in-Err-Memory-clause-none
returns-in-Err-Memory-clause-none g c = sym c.in-Err-Memory.ensures.bytes

pub returns-in-Err-Memory-clause-written : goal.returns-in-Err-Memory-clause-written
returns-in-Err-Memory-clause-written g c = ap (λ (p : Option (List ℕ) × ℕ). p.0) (sym (g.met.L.Link.read_leaves_sink c.next.new.source) ∙ (c.next.ensures.rest ∙ g.met.L.Link.read_leaves_sink c.args.link.now))

pub returns-in-Err-Memory-clause-writes : goal.returns-in-Err-Memory-clause-writes
returns-in-Err-Memory-clause-writes g c = ap (λ (p : Option (List ℕ) × ℕ). p.1) (sym (g.met.L.Link.read_leaves_sink c.next.new.source) ∙ (c.next.ensures.rest ∙ g.met.L.Link.read_leaves_sink c.args.link.now))

pub returns-in-Err-Memory-clause-reads : goal.returns-in-Err-Memory-clause-reads
returns-in-Err-Memory-clause-reads g c = rw c.in-Err-Memory.field-0-is at c.in-Err-Memory.ensures.no_fault
