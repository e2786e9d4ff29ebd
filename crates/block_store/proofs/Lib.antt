mod WalkFacts
mod FileFacts
mod ChainFacts
mod Marks
mod Taken
