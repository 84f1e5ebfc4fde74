mod Worked
