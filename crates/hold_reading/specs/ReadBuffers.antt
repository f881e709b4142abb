-- The buffers of a reading that is over, as what is held speaks of them.
use Rattle.hold_reading.specs.declared.ReadBuffers.{ReadBuffers}
use Rattle.hold_reading.specs.Buffers.{Buffers, buffers}

abbrev pub buffers_of : ReadBuffers → Buffers
buffers_of b = buffers b.names.now b.index.now b.texts.now b.bind.now b.graph.now
