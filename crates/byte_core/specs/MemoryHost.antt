-- What a contract sees of a host in memory.
use Rattle.std.specs.Prelude.{ℕ, ◌+◌, ◌-◌, List, ◌++◌, take, drop, min, Some, None, option_map, option_copied}
use Rattle.std.specs.Vec.{vec_len}
use Rattle.byte_core.specs.Count.{last_count, risen}
use Rattle.byte_core.specs.NamedFiles.{named_files}
use Rattle.byte_core.specs.Outside.{Outside, known_file}
use Rattle.byte_core.specs.declared.memory_host.MemHost.TheInside.{Inside}

-- the outside that it stands for, the numbers of the calls that fail, the number of the next call
-- of each kind, and how many bytes the outputs still have room for
pub record MemHostData : Type 0 where
  pub outside : Outside
  pub failing_reads : List ℕ
  pub failing_writes : List ℕ
  pub failing_err_writes : List ℕ
  pub failing_opens : List ℕ
  pub failing_file_reads : List ℕ
  pub reads : ℕ
  pub writes : ℕ
  pub err_writes : ℕ
  pub opens : ℕ
  pub file_reads : ℕ
  pub room : ℕ

abbrev pub host_view : Inside → MemHostData
host_view h =
    record {
      outside =
          record {
            input = Some h.input.now;
            taken = h.taken;
            read_faults = h.read_faults;
            output = Some h.output.items;
            write_faults = h.write_faults;
            errors = Some h.errors.items;
            err_faults = h.err_faults;
            files = Some (named_files h.files.now);
            open_faults = h.open_faults;
            file = option_map known_file (option_copied h.file);
            file_faults = h.file_faults;
          };
      failing_reads = h.fails.reads.now;
      failing_writes = h.fails.writes.now;
      failing_err_writes = h.fails.err_writes.now;
      failing_opens = h.fails.opens.now;
      failing_file_reads = h.fails.file_reads.now;
      reads = h.reads;
      writes = h.writes;
      err_writes = h.err_writes;
      opens = h.opens;
      file_reads = h.file_reads;
      room = h.room - (vec_len h.output + vec_len h.errors);
    }

-- the number of the next call: one more, up to the last count
abbrev pub next_call : ℕ → ℕ
next_call call = min (call + 1) last_count

-- the host after a read that gave n bytes: they are off the front of the input
abbrev pub after_read : MemHostData → ℕ → MemHostData
after_read h n =
    record h {
      outside = record h.outside { input = option_map (drop n) h.outside.input; taken = risen h.outside.taken n };
      reads = next_call h.reads;
    }

-- the host after a read that failed
abbrev pub after_failed_read : MemHostData → MemHostData
after_failed_read h =
    record h {
      outside = record h.outside { read_faults = next_call h.outside.read_faults };
      reads = next_call h.reads;
    }

-- the host after a write that took n bytes of these: they are behind the output, and the room is less
abbrev pub after_write : MemHostData → List ℕ → ℕ → MemHostData
after_write h bytes n =
    record h {
      outside = record h.outside { output = option_map (λ before. before ++ take n bytes) h.outside.output };
      writes = next_call h.writes;
      room = h.room - n;
    }

-- the host after a write that failed
abbrev pub after_failed_write : MemHostData → MemHostData
after_failed_write h =
    record h {
      outside = record h.outside { write_faults = next_call h.outside.write_faults };
      writes = next_call h.writes;
    }

-- the host after a write of fault text that took n bytes of these
abbrev pub after_err_write : MemHostData → List ℕ → ℕ → MemHostData
after_err_write h bytes n =
    record h {
      outside = record h.outside { errors = option_map (λ before. before ++ take n bytes) h.outside.errors };
      err_writes = next_call h.err_writes;
      room = h.room - n;
    }

-- the host after a write of fault text that failed
abbrev pub after_failed_err_write : MemHostData → MemHostData
after_failed_err_write h =
    record h {
      outside = record h.outside { err_faults = next_call h.outside.err_faults };
      err_writes = next_call h.err_writes;
    }

-- the host after a file of these bytes was opened
abbrev pub after_open : MemHostData → List ℕ → MemHostData
after_open h bytes = record h { outside = record h.outside { file = Some (known_file bytes) }; opens = next_call h.opens }

-- the host after an opening that failed
abbrev pub after_failed_open : MemHostData → MemHostData
after_failed_open h =
    record h {
      outside = record h.outside { file = None; open_faults = next_call h.outside.open_faults };
      opens = next_call h.opens;
    }

-- the host after a read of the current file
abbrev pub after_file_read : MemHostData → MemHostData
after_file_read h = record h { file_reads = next_call h.file_reads }

-- the host after a read of the current file that failed
abbrev pub after_failed_file_read : MemHostData → MemHostData
after_failed_file_read h =
    record h {
      outside = record h.outside { file_faults = next_call h.outside.file_faults };
      file_reads = next_call h.file_reads;
    }
