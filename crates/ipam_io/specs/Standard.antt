-- What is known of sources, sinks and links over readers, writers and streams of std, and of the system's clock.
use Rattle.std.specs.Prelude.{ℕ}
use Rattle.ipam_io.specs.declared.standard.StdSource.{StdSource}
use Rattle.ipam_io.specs.declared.standard.StdSink.{StdSink}
use Rattle.ipam_io.specs.declared.tcp_link.StreamLink.{StreamLink}
use Rattle.ipam_io.specs.declared.system_clock.SystemClock.{SystemClock}

-- the reader of a source
abbrev pub reader_of : {R : Type 0} → StdSource R → R
reader_of source = source.reader

-- how many reads of it failed
abbrev pub reader_faults : {R : Type 0} → StdSource R → ℕ
reader_faults source = source.faults

-- the writer of a sink
abbrev pub writer_of : {W : Type 0} → StdSink W → W
writer_of sink = sink.writer

-- how many writes to it failed
abbrev pub writer_faults : {W : Type 0} → StdSink W → ℕ
writer_faults sink = sink.faults

-- the stream of a link
abbrev pub stream_of : {S : Type 0} → StreamLink S → S
stream_of link = link.stream

-- how many reads of it failed
abbrev pub stream_read_faults : {S : Type 0} → StreamLink S → ℕ
stream_read_faults link = link.read_faults

-- how many writes to it failed
abbrev pub stream_write_faults : {S : Type 0} → StreamLink S → ℕ
stream_write_faults link = link.write_faults

-- the latest time that the system's clock told
abbrev pub latest_time : {R : Type 0} → SystemClock R → ℕ
latest_time clock = clock.latest
